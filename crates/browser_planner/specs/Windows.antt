-- What a caller sees of windows, what it lends for them, and why there are none.
use Rattle.std.specs.Prelude.{◌≡◌, ◌≤◌, ℕ, List, length, Some}
use Rattle.migration_model.specs.Trace.{GuestTrace, Spells}
use Rattle.migration_model.specs.Touches.{touches_of}
use Rattle.migration_model.specs.Rates.{AreSettings, MigrationSettings}
use Rattle.migration_model.specs.Windows.{rows_of}
use Rattle.rate_limit.specs.Refusals.{refusal_of}
use Rattle.trace_codec.specs.Refusals.{Refuses}
use Rattle.working_sets.specs.Lending.{HasRows, rows_over}
use Rattle.working_sets.specs.declared.lending.WindowNumbers.{WindowNumbers}
use Rattle.browser_planner.specs.declared.answers.Refusal.{Refusal}
use Rattle.browser_planner.specs.declared.answers.Refusal.TheVariants as refusals
use Rattle.browser_planner.specs.declared.windows.WindowRoom.{WindowRoom}

-- how long what a caller lends for windows is: room for touches, a mark for each page, and rows for windows
abbrev pub room_of : ℕ → ℕ → ℕ → WindowRoom
room_of touches marks rows = record { touches = touches; marks = marks; rows = rows }

-- this is enough for the windows of this trace
pub record HasRoom (trace : GuestTrace) (settings : MigrationSettings) (room : WindowRoom) : Type 0 where
  pub touches : length trace.writes ≤ room.touches
  pub marks : trace.pages ≤ room.marks
  pub rows : HasRows (touches_of trace) settings.window room.rows

-- the rows of the windows of a trace are at the front of a buffer, and there are `count` of them
pub record ArePut (trace : GuestTrace) (settings : MigrationSettings)
    (count : ℕ) (old new : List WindowNumbers) : Type 0 where
  pub rows_are : new ≡ rows_over (rows_of (touches_of trace) trace.pages settings.window) old
  pub count_is : count ≡ length (rows_of (touches_of trace) trace.pages settings.window)

-- the same, of the trace that these bytes encode
pub record AreWindowsOf (bytes : List ℕ) (settings : MigrationSettings)
    (count : ℕ) (old new : List WindowNumbers) : Type 0 where
  pub trace : GuestTrace
  pub spells : Spells bytes trace
  pub are_put : ArePut trace settings count old new

-- no rows are written: the settings are refused, or else the bytes, or else what is lent is too short
abbrev pub RefusesWindows : List ℕ → MigrationSettings → WindowRoom → Refusal → Type 0
RefusesWindows bytes settings room (refusals.Settings e) = refusal_of settings ≡ Some e
RefusesWindows bytes settings room (refusals.Trace e) = AreSettings settings × Refuses bytes e
RefusesWindows bytes settings room (refusals.Units e) = ⊥
RefusesWindows bytes settings room (refusals.Misfit e) = ⊥
RefusesWindows bytes settings room refusals.ShortBuffer =
    AreSettings settings × (trace : GuestTrace) × Spells bytes trace × (HasRoom trace settings room → ⊥)
