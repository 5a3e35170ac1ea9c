use Rattle.std.proofs.Common.{◌≡◌, ℕ, ◌+◌, ◌*◌, None, Result, Ok, Err, OnOk, refl, subst}
use borrow.Author.Count.{below_more}
use Rattle.rate_limit.specs.Refusals.{refusal_of}
use Rattle.predictions.proofs.starts.cases.Starts.test.Goals as goal

-- what holds of a result that is no error
holds : {T E : Type 0} (r : Result T E) (P : Type 0) → OnOk r P → ((e : E) → r ≡ Err e → ⊥) → P
holds (Ok value) P is not = is
holds (Err e) P is not = absurd (not e refl)

pub loop-number-preserved : goal.loop-number-preserved
loop-number-preserved c =
    let accepts : ℕ → Type 0 = λ tick. refusal_of (record c.args.settings.now { start = tick }) ≡ None in
    let at : ℕ → ℕ = λ k. c.args.self.now.from + k * c.spacing-every.result in
    let here : accepts (at c.loop-number.number) = subst accepts c.tick_at.ensures
    (holds c.case_at.result (accepts c.tick_at.result) c.case_at.ensures.accepted c.in_default.not-Err) in
    below_more (λ k. accepts (at k)) c.loop-number.number c.loop-number.invariant here
