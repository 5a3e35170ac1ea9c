use Rattle.std.proofs.Common.{List, ap, length, map, subst, sym, take, ◌+◌, ◌≤◌, arith, length-append, ℕ}
use Rattle.std.proofs.lemmas.List.{length-map}
use Rattle.std.specs.Borrow.{Bor}
use Rattle.migration_model.specs.Rates.{MigrationSettings}
use Rattle.job_commands.specs.Cases.{AreCases, RefusesWords}
use Rattle.job_commands.specs.declared.command.WordsError.TheVariants.{Refused}
use Rattle.job_commands.proofs.CaseLemmas.{one_more_case, refused_here, word_at}
use Rattle.job_commands.proofs.OptionLemmas.{on_error}
use Rattle.job_commands.proofs.cases.cases_of.Goals as goal

pub returns-in_err-settings-clause-refused : goal.returns-in_err-settings-clause-refused
returns-in_err-settings-clause-refused c =
    let words = map {A = Bor (List ℕ)} {B = List ℕ} (λ w. w.now) c.args.words.now in
    let few : length words ≤ 256 = omega (arith, length-map c.args.words.now (λ (w : Bor (List ℕ)). w.now)) in
    on_error c.from_residual-in_err-settings.result (Refused c.in_err-settings.field-0.0)
    (RefusesWords c.args.options.now words) c.from_residual-in_err-settings.ensures.1
    (refused_here c.args.options.now _ c.loop-number.number _ _ c.in_err-settings.field-0.0 few
    c.loop-number.invariant.cases (word_at c.args.words.now c.loop-number.number _ (omega arith))
    c.in_err-settings.ensures.refused)

pub loop-number-preserved : goal.loop-number-preserved
loop-number-preserved c = record {
  cases =
      let P : List MigrationSettings → Type 0 = λ l. AreCases c.args.options.now
      (take (c.loop-number.number + 1) (map (λ w. w.now) c.args.words.now)) l in
      subst P (sym c.in_ok-push.ensures.items) (one_more_case c.args.options.now _ c.loop-number.number _ _
      c.in_ok-settings.settings c.loop-number.invariant.cases
      (word_at c.args.words.now c.loop-number.number _ (omega arith)) c.in_ok-settings.ensures.settings
      c.in_ok-settings.ensures.in_range);
  each = omega (
    arith,
    ap (λ (l : List MigrationSettings). length l) c.in_ok-push.ensures.items,
    length-append {A = MigrationSettings},
  );
  within = omega arith;
}
