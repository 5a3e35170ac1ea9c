use Rattle.std.proofs.Common.{ℕ, List, subst, refl, ap}
use Rattle.clap.specs.Words.{found_of, rows_of}
use Rattle.migration_model.specs.Rates.{MigrationSettings}
use Rattle.job_commands.specs.Cases.{AreCases, RefusesWords}
use Rattle.job_commands.specs.Jobs.{SweepFails}
use Rattle.job_commands.proofs.OptionLemmas.{case_words_from_found, on_error, sweep_fails}
use Rattle.job_commands.proofs.cases.cases_and_workers.Goals as goal

pub returns-clause-made : goal.returns-clause-made
returns-clause-made c =
    let words = case_words_from_found (found_of c.args.options.now) c.get_strs.result _ c.unwrap_or-words.result
    c.unwrap_or-words.ensures refl c.get_strs.ensures in
    let P : List (List ℕ) → Type 0 = λ l. AreCases c.sweep_options-asked.result l c.in_ok-cases.cases.items in
    record {
      options = c.sweep_options-asked.result;
      asked = c.sweep_options-asked.ensures;
      are_cases = subst P words c.in_ok-cases.ensures.each;
      few = c.in_ok-cases.ensures.few;
      workers_are = ap (λ (s : MigrationSettings). s.workers) c.asked.view_is;
    }

pub returns-in_err-cases-clause-failed : goal.returns-in_err-cases-clause-failed
returns-in_err-cases-clause-failed c =
    let rows = rows_of (found_of c.args.options.now) in
    let e = c.in_err-cases.field-0.0 in
    let words = case_words_from_found (found_of c.args.options.now) c.get_strs.result _ c.unwrap_or-words.result
    c.unwrap_or-words.ensures refl c.get_strs.ensures in
    let P : List (List ℕ) → Type 0 = λ l. RefusesWords c.sweep_options-asked.result l e in
    on_error c.from_residual.result e (SweepFails rows) c.from_residual.ensures.1 (sweep_fails rows
    c.sweep_options-asked.result e c.sweep_options-asked.ensures (subst P words c.in_err-cases.ensures.refused))
