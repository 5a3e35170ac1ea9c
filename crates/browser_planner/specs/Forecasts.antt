-- What a caller sees of a hypervisor's migration, and what it lends for its plan.
use Rattle.std.specs.Prelude.{◌≡◌, ◌≤◌, ℕ, length, Option}
use Rattle.migration_model.specs.Touches.{touches_of}
use Rattle.migration_model.specs.Trace.{GuestTrace}
use Rattle.page_bitmap.specs.Listing.{word_count}
use Rattle.predictions.specs.Looks.{IsForecast, LookForecast}
use Rattle.predictions.specs.declared.question.Terms.{Terms}
use Rattle.c_layout.specs.Forecasts.{forecast_numbers}
use Rattle.c_layout.specs.declared.forecasts.ForecastNumbers.{ForecastNumbers}
use Rattle.browser_planner.specs.declared.forecasts.LookRoom.{LookRoom}

-- these numbers say what comes of a migration over a trace like QEMU
pub record IsForecastFor (terms : Terms) (numbers : ForecastNumbers) (trace : GuestTrace) : Type 0 where
  pub forecast : Option LookForecast
  pub is_forecast : IsForecast trace.pages (touches_of trace) terms.scale terms.limits terms.settings forecast
  pub numbers_are : numbers ≡ forecast_numbers forecast

-- how long what a caller lends for the plan is: room for touches, marks, and room for a list of pages
abbrev pub room_of : ℕ → ℕ → ℕ → LookRoom
room_of touches marks list = record { touches = touches; marks = marks; list = list }

-- this is enough for the plan of a trace
pub record HasRoomToLook (room : LookRoom) (trace : GuestTrace) : Type 0 where
  pub touches : length trace.writes ≤ room.touches
  pub marks : word_count trace.pages ≤ room.marks
  pub list : trace.pages ≤ room.list
