-- What a caller sees of plans, what it lends for one, and why there is none.
use Rattle.std.specs.Prelude.{◌≡◌, ◌≤◌, ℕ, List, length, Some}
use Rattle.migration_model.specs.Trace.{GuestTrace, Spells}
use Rattle.migration_model.specs.Touches.{touches_of}
use Rattle.migration_model.specs.Rates.{AreSettings, MigrationSettings}
use Rattle.migration_model.specs.Sweeps.{PlanOutcome}
use Rattle.page_bitmap.specs.Listing.{word_count}
use Rattle.rate_limit.specs.Refusals.{refusal_of}
use Rattle.trace_codec.specs.Refusals.{Refuses}
use Rattle.round_planner.specs.Rows.{IsPlanned}
use Rattle.round_planner.specs.declared.parts.RoundRow.{RoundRow}
use Rattle.c_layout.specs.Sums.{sums_of}
use Rattle.c_layout.specs.declared.sums.PlanSums.{PlanSums}
use Rattle.browser_planner.specs.declared.answers.Refusal.{Refusal}
use Rattle.browser_planner.specs.declared.answers.Refusal.TheVariants as refusals
use Rattle.browser_planner.specs.declared.plans.PlanRoom.{PlanRoom}

-- how long what a caller lends for a plan is: room for touches, marks, room for a list of pages, and rows for rounds
abbrev pub room_of : ℕ → ℕ → ℕ → ℕ → PlanRoom
room_of touches marks list rounds = record { touches = touches; marks = marks; list = list; rounds = rounds }

-- this is enough for a plan of this trace
pub record HasRoom (trace : GuestTrace) (settings : MigrationSettings) (room : PlanRoom) : Type 0 where
  pub touches : length trace.writes ≤ room.touches
  pub marks : word_count trace.pages ≤ room.marks
  pub list : trace.pages ≤ room.list
  pub rounds : settings.rounds ≤ room.rounds

-- this is the result of the plan of the trace that these bytes encode, and its rounds are at the front of a buffer
pub record IsPlannedOf (bytes : List ℕ) (settings : MigrationSettings)
    (outcome : PlanOutcome) (old new : List RoundRow) : Type 0 where
  pub trace : GuestTrace
  pub spells : Spells bytes trace
  pub is_planned : IsPlanned trace.pages (touches_of trace) settings outcome old new

-- the same, by its sums as a caller sees them
pub record IsSummedOf (bytes : List ℕ) (settings : MigrationSettings)
    (sums : PlanSums) (old new : List RoundRow) : Type 0 where
  pub outcome : PlanOutcome
  pub is_planned : IsPlannedOf bytes settings outcome old new
  pub sums_are : sums ≡ sums_of outcome

-- no plan is made: the settings are refused, or else the bytes, or else what is lent is too short
abbrev pub RefusesPlan : List ℕ → MigrationSettings → PlanRoom → Refusal → Type 0
RefusesPlan bytes settings room (refusals.Settings e) = refusal_of settings ≡ Some e
RefusesPlan bytes settings room (refusals.Trace e) = AreSettings settings × Refuses bytes e
RefusesPlan bytes settings room (refusals.Units e) = ⊥
RefusesPlan bytes settings room (refusals.Misfit e) = ⊥
RefusesPlan bytes settings room refusals.ShortBuffer =
    AreSettings settings × (trace : GuestTrace) × Spells bytes trace × (HasRoom trace settings room → ⊥)
