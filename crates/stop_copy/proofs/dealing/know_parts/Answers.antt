use Rattle.std.proofs.Common.{get_or, inl, inr, subst, sym, ap, ◌∙◌, arith}
use Rattle.std.proofs.lemmas.Bool.{cases_eq}
use Rattle.std.proofs.lemmas.List.{get_or_default}
use Rattle.migration_model.specs.Parts.{IsPart}
use Rattle.stop_copy.proofs.dealing.know_parts.Goals as goal

pub loop-part-preserved : goal.loop-part-preserved
loop-part-preserved c = λ k d low.
    let parts = c.args.parts.now in
    let i = c.loop-part.part-index in
    let part = c.part-item.result in
    elim (cases_eq k i) [
      | inl here ↦ subst IsPart
          (c.part-item.is ∙ get_or_default parts i part d (omega (arith, c.loop-part-test.true))
          ∙ ap (λ n. get_or parts n d) (sym here)) c.shape.ensures.is_part
      | inr apart ↦ c.loop-part.invariant k d (omega (arith, low, apart))
    ]

pub returns : goal.returns
returns c = λ k d low. c.loop-part.invariant k d (omega (arith, low, c.loop-part-test.false))
