use Rattle.std.proofs.Common.{◌≡◌, ℕ, ◌+◌, ◌*◌, length, sym, ap, subst, ◌∙◌, arith}
use Rattle.std.proofs.lemmas.Nat.Bits.{shr_and_one}
use Rattle.dirty_core.specs.Start.{Start, CopierOwns, sizes_of}
use Rattle.dirty_words.specs.Facts.{OwnsWord}
use Rattle.dirty_words.specs.Seats.{TableView}
use Rattle.live_tasks.specs.Scans.{IsOwn}
use Rattle.live_tasks.proofs.Copying.{keeps_both}
use Rattle.page_bitmap.specs.Pages.{in_words, minus, one_page, SamePages}
use Rattle.live_tasks.proofs.Held.{holds_less, own_page, shown}
use Rattle.live_tasks.proofs.copier.SharedRound.copy_bits.Goals as goal

pub copy_page-requires-clause-own : goal.copy_page-requires-clause-own
copy_page-requires-clause-own g c κs within =
    let first = c.args.copier.now.seat.facts in
    let facts = c.loop-bit.copier.seat.facts in
    let bit = c.loop-bit.bit in
    let table = c.loop-bit.invariant.ready.table_is in
    let pages = ap (λ (t : TableView). length t.start.places) table in
    let start : facts.start ≡ first.start = ap (λ (t : TableView). t.start) (table ∙ sym c.requires.ready.table_is) in
    let own : OwnsWord facts c.args.word = subst (λ (s : Start). CopierOwns (sizes_of s) facts.number c.args.word)
    (sym start)
    (subst (λ (n : ℕ). CopierOwns (sizes_of first.start) n c.args.word) (sym c.loop-bit.invariant.scan.number_is)
    c.requires.own) in
    subst (λ (p : ℕ). IsOwn facts p) (sym c.page_at.ensures)
    (own_page c.args.word c.args.bits bit (g.W.WriteLog.trace c.args.self.now.trace.now).pages facts
    c.loop-bit-test.true own
    (omega (
      arith,
      pages,
      c.args.self.now.has_pages,
      c.requires.real (64 * c.args.word + bit)
          (shown c.args.word c.args.bits bit c.loop-bit-test.true
          (sym (shr_and_one c.args.bits bit) ∙ c.if-bits-bit-ne1.false)),
    )))

pub loop-bit-preserved : goal.loop-bit-preserved
loop-bit-preserved g c = record {
  ready = c.in_ok-copy_page.ensures.ready;
  scan = keeps_both (g.W.WriteLog.trace c.args.self.now.trace.now) c.args.self.now.skip c.args.copier.now.seat.facts
      c.loop-bit.copier.seat.facts c.copy_page.new.copier.seat.facts
      c.args.copier.now.state c.loop-bit.copier.state c.copy_page.new.copier.state c.loop-bit.invariant.scan
      c.in_ok-copy_page.ensures.scan;
  holds = holds_less c.args.word c.args.bits c.loop-bit.bit c.loop-bit.copier.seat.facts
      c.copy_page.new.copier.seat.facts c.loop-bit.invariant.holds
      (subst (λ (p : ℕ). SamePages (in_words c.copy_page.new.copier.seat.facts.held)
      (minus (in_words c.loop-bit.copier.seat.facts.held) (one_page p))) c.page_at.ensures
      c.in_ok-copy_page.ensures.held);
}
