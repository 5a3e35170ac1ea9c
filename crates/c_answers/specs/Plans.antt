-- What C sees of plans and reports, and why there is none.
use Rattle.std.specs.Prelude.{◌≡◌, ◌≢◌, ◌⊎◌, ℕ, List, Some}
use Rattle.migration_model.specs.Trace.{GuestTrace, Spells}
use Rattle.migration_model.specs.Touches.{touches_of}
use Rattle.migration_model.specs.Rates.{MigrationSettings}
use Rattle.migration_model.specs.Rounds.{IsPlan, MigrationPlan}
use Rattle.rate_limit.specs.Refusals.{refusal_of}
use Rattle.trace_codec.specs.Refusals.{Refuses}
use Rattle.sweep_report.specs.Reports.{IsReport}
use Rattle.c_answers.specs.declared.answers.Refusal.{Refusal}
use Rattle.c_answers.specs.declared.answers.Refusal.TheVariants as refusals
use Rattle.c_answers.specs.declared.settings.SizedSettings.{SizedSettings}
use Rattle.c_answers.specs.Settings.{AreGiven, RefusesSettings, settings_in}

-- the plan of the trace that these bytes encode
pub record IsPlanOf (bytes : List ℕ) (settings : MigrationSettings) (plan : MigrationPlan) : Type 0 where
  pub trace : GuestTrace
  pub spells : Spells bytes trace
  pub is_plan : IsPlan trace.pages (touches_of trace) settings plan

-- the text of the report on the trace that these bytes encode
pub record IsReportOf (bytes : List ℕ) (settings : MigrationSettings) (text : List ℕ) : Type 0 where
  pub trace : GuestTrace
  pub spells : Spells bytes trace
  pub is_report : IsReport trace settings text

-- no touches are read: the bytes are refused, or else memory ran out
abbrev pub RefusesTouches : List ℕ → Refusal → Type 0
RefusesTouches bytes (refusals.Trace e) = Refuses bytes e
RefusesTouches bytes refusals.Memory = (trace : GuestTrace) × Spells bytes trace
RefusesTouches bytes refusals.SettingsSize = ⊥
RefusesTouches bytes (refusals.Settings e) = ⊥
RefusesTouches bytes (refusals.Frame e) = ⊥
RefusesTouches bytes refusals.ShortBuffer = ⊥
RefusesTouches bytes refusals.PageLength = ⊥
RefusesTouches bytes refusals.MemoryLength = ⊥
RefusesTouches bytes refusals.PageCount = ⊥
RefusesTouches bytes refusals.PageMissing = ⊥

-- no plan or report is made: the settings are refused, or else the bytes, or else memory ran out
abbrev pub RefusesPlan : List ℕ → SizedSettings → Refusal → Type 0
RefusesPlan bytes s refusals.SettingsSize = s.size ≢ 88
RefusesPlan bytes s (refusals.Settings e) = (s.size ≡ 88) × (refusal_of (settings_in s) ≡ Some e)
RefusesPlan bytes s (refusals.Trace e) = AreGiven s × Refuses bytes e
RefusesPlan bytes s refusals.Memory = AreGiven s × (trace : GuestTrace) × Spells bytes trace
RefusesPlan bytes s (refusals.Frame e) = ⊥
RefusesPlan bytes s refusals.ShortBuffer = ⊥
RefusesPlan bytes s refusals.PageLength = ⊥
RefusesPlan bytes s refusals.MemoryLength = ⊥
RefusesPlan bytes s refusals.PageCount = ⊥
RefusesPlan bytes s refusals.PageMissing = ⊥

-- no plan or report of an open trace is made: the settings are refused, or else memory ran out
abbrev pub LacksPlan : SizedSettings → Refusal → Type 0
LacksPlan s refusal = RefusesSettings s refusal ⊎ (AreGiven s × (refusal ≡ refusals.Memory))
