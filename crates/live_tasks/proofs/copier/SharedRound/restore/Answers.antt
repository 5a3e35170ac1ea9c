use Rattle.std.proofs.Common.{◌≡◌, ◌*◌, ◌%◌, ◌^◌, Bool, not, ◌&&◌, ◌||◌, subst, sym, ap, ◌∙◌, true}
use Rattle.std.proofs.lemmas.Bool.{eqb-true}
use Rattle.page_bitmap.specs.Pages.{in_words}
use Rattle.page_bitmap.proofs.Bits.{one_bit}
use Rattle.live_tasks.proofs.copier.SharedRound.restore.Goals as goal

pub restore-requires-clause-held : goal.restore-requires-clause-held
restore-requires-clause-held g c q bit =
    subst (λ p. in_words c.args.seat.now.facts.held p ≡ true)
    (sym (eqb-true q c.args.page (sym (one_bit c.args.page q) ∙ bit))) c.requires.held

pub returns-clause-restored : goal.returns-clause-restored
returns-clause-restored g c = record {
  bits = 1 * 2 ^ (c.args.page % 64) % 18_446_744_073_709_551_616;
  facts = c.restore.ensures.facts;
  held = λ q. c.restore.ensures.held q ∙ ap (λ (b : Bool). in_words c.args.seat.now.facts.held q && not b)
      (one_bit c.args.page q);
  returned = λ q. c.restore.ensures.returned q ∙ ap (λ (b : Bool). in_words c.args.seat.now.facts.returned q || b)
      (one_bit c.args.page q);
}
