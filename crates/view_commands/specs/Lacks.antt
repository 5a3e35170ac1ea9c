-- Limits that are not given.
use Rattle.std.specs.Prelude.{◌≡◌, ◌⊎◌, List, Option, None}
use Rattle.clap.specs.Walk.{Row}
use Rattle.predictions.specs.Units.Scales.{TraceScale}
use Rattle.predictions.specs.declared.units.limits.Limits.{Limits}
use Rattle.migration_model.specs.Rates.{MigrationSettings}
use Rattle.view_commands.specs.Measures.{AsksForMeasure}

-- the options make settings without a scale or without limits
pub record LacksLimits (rows : List Row) : Type 0 where
  pub settings : MigrationSettings
  pub scale : Option TraceScale
  pub limits : Option Limits
  pub asks : AsksForMeasure rows settings scale limits
  pub lacks : (scale ≡ None) ⊎ (limits ≡ None)
