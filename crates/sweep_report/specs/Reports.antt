-- What reports and sweeps over a trace are.
use Rattle.std.specs.Prelude.{◌≡◌, ℕ, List, length}
use Rattle.migration_model.specs.Trace.{GuestTrace}
use Rattle.migration_model.specs.Rates.{MigrationSettings}
use Rattle.migration_model.specs.Rounds.{IsPlan, MigrationPlan}
use Rattle.migration_model.specs.Sweeps.{SweepLine, AreLines}
use Rattle.migration_model.specs.Touches.{touches_of}
use Rattle.migration_model.specs.Windows.{working_sets_of}
use Rattle.sweep_report.specs.Texts.{report_of, sweep_of}

-- the text of a report on a trace with these settings: its working sets, and its plan
pub record IsReport (trace : GuestTrace) (settings : MigrationSettings) (text : List ℕ) : Type 0 where
  pub plan : MigrationPlan
  pub is_plan : IsPlan trace.pages (touches_of trace) settings plan
  pub text_is : text ≡ report_of trace.shift trace.pages (length trace.writes) settings.hot
      (working_sets_of trace.pages (touches_of trace) settings) plan

-- the text of a sweep of a trace over some cases: the sums of each case's plan, and the best of them
pub record IsSweep (trace : GuestTrace) (cases : List MigrationSettings) (text : List ℕ) : Type 0 where
  pub lines : List SweepLine
  pub are_lines : AreLines trace.pages (touches_of trace) cases lines
  pub text_is : text ≡ sweep_of lines
