use Rattle.std.proofs.Common.{◌≡◌, ℕ, ◌+◌, ◌*◌, Option, Some, None, Result, Ok, Err, IfErr, refl, ap, sym}
use Rattle.std.proofs.Common.{subst, ◌∙◌}
use Rattle.rate_limit.specs.Refusals.{refusal_of}
use Rattle.predictions.proofs.starts.cases.Starts.case.Goals as goal

never_refused : {T E : Type 0} (r : Result T E) (refusal : Option E) → IfErr r (λ e. refusal ≡ Some e)
    → refusal ≡ None → ((value : T) → r ≡ Ok value → ⊥) → ⊥
never_refused (Ok value) refusal some none not = not value refl
never_refused (Err e) refusal some none not = cc

pub unreachable-requires : goal.unreachable-requires
unreachable-requires c =
    let accepts : ℕ → Type 0 = λ tick. refusal_of (record c.args.settings.now { start = tick }) ≡ None in
    let tick = c.tick_at.ensures
    ∙ ap (λ (every : ℕ). c.args.self.now.from + c.args.number * every) c.spacing-every.ensures in
    never_refused c.case_at.result (refusal_of (record c.args.settings.now { start = c.tick_at.result }))
    c.case_at.ensures.refused (subst accepts (sym tick) (c.requires.accepted c.args.number c.requires.number))
    c.in_default.not-Ok
