-- What the options of advice ask for, in either kind of words, and why they are refused.
use Rattle.std.specs.Prelude.{◌≡◌, ◌⊎◌, List, Option, Some, None, codes, min}
use Rattle.clap.specs.Walk.{Row}
use Rattle.predictions.specs.Units.Limits.{ticks_for_pages}
use Rattle.predictions.specs.Units.Scales.{TraceScale}
use Rattle.job_commands.specs.Options.{AsksForSweep, IsGiven, Says}
use Rattle.job_commands.specs.declared.command.WordsError.TheVariants as errors
use Rattle.job_commands.specs.declared.command.WordsRefusal.TheVariants as refusals
use Rattle.migration_model.specs.Rates.{MigrationSettings}
use Rattle.rate_limit.specs.Refusals.{refusal_of}
use Rattle.rate_limit.specs.declared.error.SettingsError.{SettingsError}
use Rattle.view_kinds.specs.declared.budget.Budget.{Budget}
use Rattle.view_kinds.specs.declared.view.Measured.{Measured}
use Rattle.view_commands.specs.Measures.{AsksForMeasure, IsThere, RefusesMeasure}
use Rattle.view_commands.specs.Units.{HasNoUnits}
use Rattle.view_commands.specs.declared.limits.LimitsRefusal.{LimitsRefusal}
use Rattle.view_commands.specs.declared.limits.LimitsRefusal.TheVariants as refused
use Rattle.view_commands.specs.Lacks.{LacksLimits}
use Rattle.view_commands.specs.declared.command.ViewWordsError.{ViewWordsError}
use Rattle.view_commands.specs.declared.command.ViewWordsError.TheVariants as asked

-- The settings around which advice is sought, in ticks and pages: those of a sweep, with the given greatest rate, and a
-- least rate no greater than that.
pub record AsksForGrid (rows : List Row) (settings : MigrationSettings) : Type 0 where
  pub options : MigrationSettings
  pub asked : AsksForSweep rows options
  pub max : IsGiven rows (codes "max") options.max settings.max
  pub others : settings ≡ record options { max = settings.max; min = min options.min settings.max }

-- the options of advice ask for settings that are refused for this
abbrev pub IsGridRefused : List Row → SettingsError → Type 0
IsGridRefused rows e = (settings : MigrationSettings) × AsksForGrid rows settings × (refusal_of settings ≡ Some e)

-- the options ask for this budget and these settings, in ticks and pages
pub record AsksInTicks (rows : List Row) (budget : Budget) (settings : MigrationSettings) : Type 0 where
  pub no_units : HasNoUnits rows
  pub down : Says rows (codes "down") (Some budget.down)
  pub total : Says rows (codes "total") budget.total
  pub settings_are : AsksForGrid rows settings

-- the options ask for this budget and these settings, in time and bytes
pub record AsksInUnits (rows : List Row) (budget : Budget) (settings : MigrationSettings) (known : Measured) : Type 0
  where
    pub unsaid : Says rows (codes "down") None
    pub measured : AsksForMeasure rows settings (Some known.scale) (Some known.limits)
    pub down : budget.down ≡ ticks_for_pages known.scale known.limits
    pub total : Says rows (codes "total") budget.total

-- the options of advice ask for this, in either kind of words, and for this scale if they have units
abbrev pub AsksForAdvice : List Row → Budget → MigrationSettings → Option Measured → Option TraceScale → Type 0
AsksForAdvice rows budget settings None scale = AsksInTicks rows budget settings × (scale ≡ None)
AsksForAdvice rows budget settings (Some known) scale =
    AsksInUnits rows budget settings known × (scale ≡ Some known.scale)

-- what the options of advice are refused for, if it is limits
abbrev pub RefusesBudget : List Row → LimitsRefusal → Type 0
RefusesBudget rows e = ((e ≡ refused.NoBudget) × HasNoUnits rows × Says rows (codes "down") None)
    ⊎ ((¬ HasNoUnits rows) × (((e ≡ refused.TwoBudgets) × IsThere rows (codes "down"))
    ⊎ (RefusesMeasure rows e ⊎ ((e ≡ refused.Missing) × LacksLimits rows))))

-- the options of advice are refused for this
abbrev pub RefusesAdvice : List Row → ViewWordsError → Type 0
RefusesAdvice rows (asked.Words errors.Memory) = ⊥
RefusesAdvice rows (asked.Words (errors.Help text)) = ⊥
RefusesAdvice rows (asked.Words (errors.Usage text)) = ⊥
RefusesAdvice rows (asked.Words (errors.Refused (refusals.Settings e))) = IsGridRefused rows e
RefusesAdvice rows (asked.Words (errors.Refused refusals.TooManyCases)) = ⊥
RefusesAdvice rows (asked.Words (errors.Refused (refusals.Case place))) = ⊥
RefusesAdvice rows (asked.Words (errors.Refused (refusals.CaseSettings place e))) = ⊥
RefusesAdvice rows (asked.Limits e) = RefusesBudget rows e
