-- By whose plan a migration goes: a hypervisor's looks, or Clark's rounds, which have options of their own.
use Rattle.std.specs.Prelude.{◌≡◌, ◌≢◌, ◌⊎◌, true, false, List, Some, None, codes}
use Rattle.clap.specs.Walk.{Row, first_of}
use Rattle.migration_model.specs.Rates.{MigrationSettings}
use Rattle.job_commands.specs.Options.{IsFlag, Says}
use Rattle.predictions.specs.Units.Scales.{TraceScale}
use Rattle.predictions.specs.declared.course.Manner.{Manner}
use Rattle.predictions.specs.declared.course.Manner.TheVariants as manners
use Rattle.predictions.specs.declared.units.limits.Limits.{Limits}
use Rattle.view_commands.specs.Lacks.{LacksLimits}
use Rattle.view_commands.specs.Measures.{AsksForMeasure, IsThere, RefusesMeasure}
use Rattle.view_commands.specs.declared.limits.LimitsRefusal.{LimitsRefusal}
use Rattle.view_commands.specs.declared.limits.LimitsRefusal.TheVariants as refused

-- an option of Clark's rounds is given, or none of them is
abbrev pub HasRounds : List Row → Type 0
HasRounds rows = (first_of (codes "first") rows ≢ None) ⊎ (IsThere rows (codes "inc")
    ⊎ (IsThere rows (codes "rounds") ⊎ IsFlag rows (codes "skip") true))

abbrev pub HasNoRounds : List Row → Type 0
HasNoRounds rows = (first_of (codes "first") rows ≡ None) × Says rows (codes "inc") None
    × Says rows (codes "rounds") None × IsFlag rows (codes "skip") false

-- The options ask for a migration by Clark's rounds, or by a hypervisor's looks.
abbrev pub AsksForManner : List Row → Manner → Type 0
AsksForManner rows manners.Rounds = IsFlag rows (codes "clark") true
AsksForManner rows manners.Looks = IsFlag rows (codes "clark") false × HasNoRounds rows

-- options of Clark's rounds are given without the flag for these
abbrev pub LacksClark : List Row → Type 0
LacksClark rows = IsFlag rows (codes "clark") false × HasRounds rows

-- the options ask for a migration with limits, and say by whose plan it goes
pub record AsksForMigration (rows : List Row) (settings : MigrationSettings) (scale : TraceScale) (limits : Limits)
    (manner : Manner) : Type 0 where
  pub measured : AsksForMeasure rows settings (Some scale) (Some limits)
  pub manner_is : AsksForManner rows manner

-- the options ask for a migration with limits, and for options of Clark's rounds without the flag for these
pub record NeedsClark (rows : List Row) : Type 0 where
  pub settings : MigrationSettings
  pub scale : TraceScale
  pub limits : Limits
  pub measured : AsksForMeasure rows settings (Some scale) (Some limits)
  pub lacks : LacksClark rows

-- The options of a migration are refused: for what they measure, for want of limits, or at last for want of the flag.
abbrev pub RefusesMigration : List Row → LimitsRefusal → Type 0
RefusesMigration rows e = RefusesMeasure rows e ⊎ (((e ≡ refused.Missing) × LacksLimits rows)
    ⊎ ((e ≡ refused.NeedsClark) × NeedsClark rows))
