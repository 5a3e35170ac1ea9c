use Rattle.std.proofs.Common.{◌≡◌, ℕ, ◌+◌, ◌*◌, ◌<◌, List, ◌++◌, ◌∷◌, [], map, Option, Some, None, Result, Ok, Err}
use Rattle.std.proofs.Common.{IfErr, refl, ap, sym, subst, ◌∙◌, arith}
use Rattle.std.proofs.lemmas.List.FromFn.{map-range_with_len_more}
use Rattle.std.specs.List.{range_with_len}
use Rattle.migration_model.specs.Rates.{MigrationSettings}
use Rattle.rate_limit.specs.Refusals.{refusal_of}
use Rattle.predictions.proofs.starts.cases.Starts.made.Goals as goal

never_refused : {T E : Type 0} (r : Result T E) (refusal : Option E) → IfErr r (λ e. refusal ≡ Some e)
    → refusal ≡ None → ((value : T) → r ≡ Ok value → ⊥) → ⊥
never_refused (Ok value) refusal some none not = not value refl
never_refused (Err e) refusal some none not = cc

pub unreachable-requires : goal.unreachable-requires
unreachable-requires c =
    let accepts : ℕ → Type 0 = λ tick. refusal_of (record c.args.settings.now { start = tick }) ≡ None in
    let tick = c.tick_at.ensures
    ∙ ap (λ (every : ℕ). c.args.self.now.from + c.loop-number.number * every) c.spacing-every.ensures in
    let low = subst (λ (count : ℕ). c.loop-number.number < count) c.requires.count c.loop-number-test.true in
    never_refused c.case_at.result (refusal_of (record c.args.settings.now { start = c.tick_at.result }))
    c.case_at.ensures.refused (subst accepts (sym tick) (c.requires.accepted c.loop-number.number low))
    c.in_default.not-Ok

pub loop-number-preserved : goal.loop-number-preserved
loop-number-preserved c =
    let n = c.loop-number.number in
    let at : ℕ → MigrationSettings = λ k. record c.args.settings.now {
      start =
          c.args.self.now.from + k * c.spacing-every.result;
    } in
    let before : List MigrationSettings = map at (range_with_len 0 n) in
    let tick = ap (λ (t : ℕ). record c.args.settings.now { start = t }) c.tick_at.ensures in
    c.in_ok-push.ensures.items ∙ ap (λ (l : List MigrationSettings). l ++ c.in-Ok.case ∷ []) c.loop-number.invariant
    ∙ ap (λ (case : MigrationSettings). before ++ case ∷ []) (c.in-Ok.ensures.made ∙ tick)
    ∙ sym (map-range_with_len_more at 0 n n (omega arith))
