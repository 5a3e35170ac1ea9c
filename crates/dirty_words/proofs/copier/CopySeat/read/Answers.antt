use Rattle.std.proofs.Common.{◌≡◌, ℕ, ◌+◌, ◌-◌, ◌*◌, ◌/◌, ◌%◌, ◌^◌, get_or, set, bit_and, refl, ap, ◌∙◌, arith}
use Rattle.page_bitmap.proofs.Bits.{shifted_page_bit}
use Rattle.dirty_words.specs.Facts.{CopyFacts, after_read}
use Rattle.dirty_words.specs.Plays.{lone_copier, copier_in}
use Rattle.dirty_words.specs.Invariants.{copy_facts}
use Rattle.dirty_words.proofs.Kept.{CopyFits-read, IsCopySeat-after, held_word}
use Rattle.dirty_words.proofs.Calls.{copy_call, has_page, read_asks, was_read, word_page}
use Rattle.dirty_words.proofs.copier.CopySeat.read.Goals as goal

pub load-place-requires : goal.load-place-requires
load-place-requires c =
    let call = copy_call c.self.view_is c.self.invariant c.table.view_is c.table.invariant c.requires.table in
    read_asks call c.args.page _ c.requires.held (grind (arith, c.len.ensures))

pub invariant_of-self : goal.invariant_of-self
invariant_of-self c =
    let call = copy_call c.self.view_is c.self.invariant c.table.view_is c.table.invariant c.requires.table in
    let seat = c.self.inside in
    let facts : CopyFacts = copy_facts seat in
    let has = has_page call c.args.page c.requires.held in
    let bit : ℕ = 1 * 2 ^ (c.args.page % 64) % 18_446_744_073_709_551_616 in
    IsCopySeat-after seat _ (after_read c.args.page c.load-place.result facts) c.self.invariant
    (c.load-place.ensures.2.0 ∙ ap (λ p. (lone_copier (after_read p c.load-place.result facts), seat.seat.me.1))
    (word_page call c.args.page (c.len.result + c.args.page) (grind (arith, c.len.ensures))))
    refl refl
    (held_word (λ x. bit_and x (18_446_744_073_709_551_615 - bit)) seat.held.items facts.held (c.args.page / 64)
    c.index_mut.result.now c.self.invariant.held has.1 c.index_mut.ensures.value
    ∙ ap (λ b. set facts.held (c.args.page / 64) (bit_and (get_or facts.held (c.args.page / 64) 0)
    (18_446_744_073_709_551_615 - b))) (shifted_page_bit c.args.page))
    refl refl (CopyFits-read facts c.args.page c.load-place.result c.self.invariant.fits has.0)

pub returns-clause-held : goal.returns-clause-held
returns-clause-held c =
    let call = copy_call c.self.view_is c.self.invariant c.table.view_is c.table.invariant c.requires.table in
    let place = c.load-place.result in
    let facts : CopyFacts = copy_facts c.self.inside in
    let new : copier_in c.load-place.new.seat.me.0 ≡ after_read c.args.page place facts =
    ap (λ m. copier_in m.0) c.load-place.ensures.2.0
    ∙ ap (λ p. after_read p place facts)
    (word_page call c.args.page (c.len.result + c.args.page) (grind (arith, c.len.ensures))) in
    was_read call (copier_in c.load-place.new.seat.me.0) c.args.page place c.requires.held new
