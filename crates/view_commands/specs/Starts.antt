-- What the options of starts ask for, and why they are refused. The first start replaces `start`.
use Rattle.std.specs.Prelude.{◌≡◌, ◌⊎◌, ℕ, ◌<◌, ◌≤◌, ◌^◌, true, false, List, Option, Some, codes, string_bytes}
use Rattle.std.specs.Prelude.{unwrap_or}
use Rattle.clap.specs.Walk.{Row}
use Rattle.predictions.specs.Units.Scales.{TraceScale}
use Rattle.predictions.specs.declared.units.limits.Limits.{Limits}
use Rattle.job_commands.specs.Options.{IsFlag, Says}
use Rattle.job_commands.specs.declared.command.WordsError.TheVariants as errors
use Rattle.migration_model.specs.Rates.{MigrationSettings}
use Rattle.predictions.specs.declared.starts.cases.Starts.{Starts}
use Rattle.view_kinds.specs.declared.view.AskedStarts.{AskedStarts}
use Rattle.view_kinds.specs.declared.view.StartsForm.{StartsForm}
use Rattle.view_kinds.specs.declared.view.StartsForm.TheVariants as forms
use Rattle.predictions.specs.declared.course.Manner.{Manner}
use Rattle.view_commands.specs.Manners.{AsksForMigration, RefusesMigration}
use Rattle.view_commands.specs.declared.command.ViewWordsError.{ViewWordsError}
use Rattle.view_commands.specs.declared.command.ViewWordsError.TheVariants as asked

-- the spacing is at least a tick, and the last start is neither before the first nor at tick 2^40 or later
pub record AreInRange (starts : Starts) : Type 0 where
  pub spaced : 1 ≤ unwrap_or starts.every 1
  pub order : starts.from ≤ unwrap_or starts.to starts.from
  pub high : unwrap_or starts.to starts.from < 2 ^ 40

-- the options ask for these starts, of which this is the first
pub record AsksForTicks (rows : List Row) (from : ℕ) (starts : Starts) : Type 0 where
  pub from_is : starts.from ≡ from
  pub to : Says rows (codes "to") starts.to
  pub every : Says rows (codes "every") starts.every
  pub in_range : AreInRange starts

-- the options ask for starts that are out of range
pub record AreTicksRefused (rows : List Row) (from : ℕ) : Type 0 where
  pub to : Option ℕ
  pub every : Option ℕ
  pub says_to : Says rows (codes "to") to
  pub says_every : Says rows (codes "every") every
  pub out_of_range : (unwrap_or every 1 < 1) ⊎ ((unwrap_or to from < from) ⊎ (2 ^ 40 ≤ unwrap_or to from))

-- how starts are shown for people: as a picture if the flag for it is present
abbrev pub AsksForForm : List Row → StartsForm → Type 0
AsksForForm rows forms.Chart = IsFlag rows (codes "chart") true
AsksForForm rows forms.Table = IsFlag rows (codes "chart") false
AsksForForm rows forms.Json = ⊥

-- the options ask for starts of a migration with limits, in this form
pub record AsksForStarts (rows : List Row) (form : StartsForm) (asked : AskedStarts) : Type 0 where
  pub migration : AsksForMigration rows asked.settings asked.scale asked.limits asked.manner
  pub ticks : AsksForTicks rows asked.settings.start asked.starts
  pub form_is : asked.form ≡ form

-- the options ask for a migration, but for starts that are out of range
pub record RefusesTicks (rows : List Row) : Type 0 where
  pub settings : MigrationSettings
  pub scale : TraceScale
  pub limits : Limits
  pub manner : Manner
  pub migration : AsksForMigration rows settings scale limits manner
  pub refused : AreTicksRefused rows settings.start

-- what is told of starts that are out of range
abbrev pub ticks_text : List ℕ
ticks_text = codes "error: --every is at least 1, and --to is not before --from and below 2^40\n"

-- The options of starts are refused for this: first for those of the migration, and then for starts that are out of
-- range. Memory can run out only for the text on these.
abbrev pub RefusesStarts : List Row → ViewWordsError → Type 0
RefusesStarts rows (asked.Words errors.Memory) = RefusesTicks rows
RefusesStarts rows (asked.Words (errors.Usage text)) = RefusesTicks rows × (string_bytes text ≡ ticks_text)
RefusesStarts rows (asked.Words (errors.Help text)) = ⊥
RefusesStarts rows (asked.Words (errors.Refused refusal)) = ⊥
RefusesStarts rows (asked.Limits e) = RefusesMigration rows e
