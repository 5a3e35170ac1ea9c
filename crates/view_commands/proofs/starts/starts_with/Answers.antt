use Rattle.std.proofs.Common.{ℕ, List, ap, subst, ◌∙◌}
use Rattle.clap.specs.Walk.{Row}
use Rattle.clap.specs.Words.{found_of, rows_of}
use Rattle.job_commands.specs.declared.command.WordsError.TheVariants.{Help, Memory, Refused, Usage}
use Rattle.migration_model.specs.Rates.{MigrationSettings}
use Rattle.view_commands.specs.Starts.{AreTicksRefused, RefusesStarts, RefusesTicks, ticks_text}
use Rattle.view_commands.specs.Usage.{IsUsage}
use Rattle.view_commands.specs.declared.command.ViewWordsError.{ViewWordsError}
use Rattle.view_commands.specs.declared.command.ViewWordsError.TheVariants.{Limits, Words}
use Rattle.view_commands.proofs.starts.starts_with.Goals as goal

-- a text about starts that are out of range refuses them
refuses : (rows : List Row) (e : ViewWordsError) → RefusesTicks rows → IsUsage ticks_text e → RefusesStarts rows e
refuses rows (Words Memory) ticks usage = ticks
refuses rows (Words (Usage text)) ticks usage = (ticks, usage)
refuses rows (Words (Help text)) ticks usage = absurd usage
refuses rows (Words (Refused refusal)) ticks usage = absurd usage
refuses rows (Limits refusal) ticks usage = absurd usage

pub returns-in-None-clause-refused : goal.returns-in-None-clause-refused
returns-in-None-clause-refused c =
    let rows = rows_of (found_of c.args.options.now) in
    let start = ap (λ (s : MigrationSettings). s.start) (c.behind-migration.view_is ∙ c.asked.ensures.value) in
    let P : ℕ → Type 0 = λ from. AreTicksRefused rows from in
    refuses rows c.usage.result (record {
      settings = c.args.migration.now.settings;
      scale = c.args.migration.now.scale;
      limits = c.args.migration.now.limits;
      manner = c.args.migration.now.manner;
      migration = c.requires;
      refused = subst P start c.in-None.ensures.refused;
    }) c.usage.ensures
