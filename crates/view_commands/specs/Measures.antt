-- Which settings options ask for, in either kind of words, and why they are refused.
use Rattle.std.specs.Prelude.{◌≡◌, ◌⊎◌, ℕ, true, if◌then◌else◌, List, Option, Some, None, codes}
use Rattle.clap.specs.Walk.{Row, Text}
use Rattle.predictions.specs.Units.Limits.{RefusesLimits, settings_in}
use Rattle.predictions.specs.Units.Scales.{TraceScale}
use Rattle.predictions.specs.declared.units.error.UnitsError.TheVariants as errors
use Rattle.predictions.specs.declared.units.limits.Limits.{Limits}
use Rattle.job_commands.specs.Options.{AreRefused, AsksFor, Says}
use Rattle.migration_model.specs.Rates.{MigrationSettings}
use Rattle.rate_limit.specs.declared.error.SettingsError.{SettingsError}
use Rattle.view_commands.specs.Nearest.{TellsLimits, TellsScale}
use Rattle.view_commands.specs.Units.{AreLimitsSaid, IsSaid, RefusesWord, SaysWhat, has_units, is_incomplete, scale_in}
use Rattle.view_commands.specs.declared.limits.LimitsRefusal.{LimitsRefusal}
use Rattle.view_commands.specs.declared.limits.LimitsRefusal.TheVariants as refusals
use Rattle.view_commands.specs.declared.limits.Said.{Said}
use Rattle.view_commands.specs.declared.ranges.RangeRefusal.{RangeRefusal}

-- an option has a number
abbrev pub IsThere : List Row → Text → Type 0
IsThere rows name = (n : ℕ) × Says rows name (Some n)

-- a rate or the threshold is given in pages and ticks, or none of them is
abbrev pub IsMixed : List Row → Type 0
IsMixed rows = IsThere rows (codes "min") ⊎ (IsThere rows (codes "max") ⊎ IsThere rows (codes "threshold"))

abbrev pub AreUnsaid : List Row → Type 0
AreUnsaid rows = Says rows (codes "min") None × Says rows (codes "max") None × Says rows (codes "threshold") None

-- the settings of limits, with the others and the increment that the options give
pub record AsksForLimited (rows : List Row) (said : Said) (limits : Limits) (settings : MigrationSettings) : Type
    0 where
  pub unsaid : AreUnsaid rows
  pub increment : Option ℕ
  pub says_increment : Says rows (codes "inc") increment
  pub others : MigrationSettings
  pub asks_others : AsksFor rows others
  pub settings_are : settings ≡ settings_in (scale_in said) limits increment others

-- the settings of the options: those of limits if they are given
abbrev pub AsksForSettings : List Row → Said → Option Limits → MigrationSettings → Type 0
AsksForSettings rows said None settings = AsksFor rows settings
AsksForSettings rows said (Some limits) settings = AsksForLimited rows said limits settings

-- the options ask for these settings, of these limits, and for this scale if an option of limits is given
pub record AsksForMeasure (rows : List Row) (settings : MigrationSettings) (scale : Option TraceScale)
    (limits : Option Limits) : Type 0 where
  pub said : Said
  pub is_said : IsSaid rows said
  pub limits_are : AreLimitsSaid said limits
  pub scale_is : scale ≡ (if has_units said then Some (scale_in said) else None)
  pub settings_are : AsksForSettings rows said limits settings

-- an amount is refused, and what is told of it holds
abbrev pub RefusesAs : LimitsRefusal → (RangeRefusal → Type 0) → Type 0
RefusesAs e Tells = (refusal : RangeRefusal) × (e ≡ refusals.Range refusal) × Tells refusal

-- the limits are refused for one of them, or for another setting, with the increment and the others that the options
-- give
pub record RefusesLimited (rows : List Row) (said : Said) (limits : Limits) (e : LimitsRefusal) : Type 0 where
  pub increment : Option ℕ
  pub says_increment : Says rows (codes "inc") increment
  pub others : MigrationSettings
  pub asks_others : AsksFor rows others
  pub refuses : (RefusesAs e (TellsLimits (scale_in said) limits))
      ⊎ ((error : SettingsError) × (e ≡ refusals.Settings error)
      × RefusesLimits (scale_in said) limits increment others (errors.Setting error))

-- the settings are refused: those of limits, or others
abbrev pub RefusesSettings : List Row → Said → Option Limits → LimitsRefusal → Type 0
RefusesSettings rows said limits e = ((error : SettingsError) × (e ≡ refusals.Settings error) × AreRefused rows error)
    ⊎ ((some : Limits) × (limits ≡ Some some)
    × (((e ≡ refusals.Mixed) × IsMixed rows) ⊎ RefusesLimited rows said some e))

-- what the options say is refused: its scale, its limits if they are incomplete, or the settings
abbrev pub RefusesSaid : List Row → LimitsRefusal → Said → Type 0
RefusesSaid rows e said =
    RefusesAs e (TellsScale (scale_in said))
    ⊎ (((e ≡ refusals.Incomplete) × (is_incomplete said ≡ true))
    ⊎ ((limits : Option Limits) × AreLimitsSaid said limits × RefusesSettings rows said limits e))

-- the options ask for this scale, if one of them concerns it
abbrev pub AsksForScale : List Row → Option TraceScale → Type 0
AsksForScale rows scale = SaysWhat rows (λ said. scale ≡ (if has_units said then Some (scale_in said) else None))

-- the scale that the options give is refused
abbrev pub RefusesScale : LimitsRefusal → Said → Type 0
RefusesScale e said = RefusesAs e (TellsScale (scale_in said))

abbrev pub RefusesScaleWords : List Row → LimitsRefusal → Type 0
RefusesScaleWords rows e = RefusesWord rows e ⊎ SaysWhat rows (RefusesScale e)

-- why the options are refused: for the word of one of them, or for what they say
abbrev pub RefusesMeasure : List Row → LimitsRefusal → Type 0
RefusesMeasure rows e = RefusesWord rows e ⊎ SaysWhat rows (RefusesSaid rows e)
