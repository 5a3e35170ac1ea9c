-- What a migration will be if the hypervisor looks at its dirty bitmap only when few pages are left, as QEMU does. It
-- sends with the whole link, and asks each 100 ms how many are left. This project's own.
use Rattle.std.specs.Prelude.{◌≡◌, ℕ, ◌+◌, ◌-◌, ◌<◌, ◌≤◌, nat_le, Bool, List, length, Option, None, Some}
use Rattle.look_planner.specs.Plans.{PlanNumbers, looks_in, numbers_of}
use Rattle.migration_model.specs.Looks.{HypervisorPlan, HypervisorSettings, IsHypervisorPlan, PlanEnd}
use Rattle.migration_model.specs.Rates.{MigrationSettings}
use Rattle.migration_model.specs.Touches.{GuestTouch, last_tick_of}
use Rattle.predictions.specs.Predictions.{downtime_of}
use Rattle.predictions.specs.Units.Scales.{TraceScale, bytes_of, micros_of, ticks_in}
use Rattle.predictions.specs.declared.units.limits.Limits.{Limits}
pub mod Texts

-- Why the plan ends, and after how many looks; the time from its start until the guest runs again, or the record ends;
-- the bytes that are sent, of which those that are left at the end; how long the guest does not run, and whether that
-- keeps the limit. Times are in microseconds.
pub record LookForecast : Type 0 where
  pub end : PlanEnd
  pub looks : ℕ
  pub time : ℕ
  pub bytes : ℕ
  pub left : ℕ
  pub downtime : ℕ
  pub is_kept : Bool

-- what is sent before the guest stops, or the record ends
abbrev pub sent_before : LookForecast → ℕ
sent_before f = f.bytes - f.left

-- the settings of the hypervisor, whose record ends at the last tick
abbrev pub look_settings : TraceScale → MigrationSettings → ℕ → HypervisorSettings
look_settings scale s last_tick = record {
  start = s.start;
  base = s.base;
  rate = s.max;
  window = ticks_in scale 100_000;
  threshold = s.threshold;
  looks = None;
  end = last_tick;
}

-- what a plan that begins at a tick comes to
abbrev pub forecast_of : TraceScale → Limits → ℕ → PlanNumbers → LookForecast
forecast_of scale limits start plan = record {
  end = plan.end;
  looks = looks_in plan;
  time = micros_of scale (plan.stop - start) + downtime_of scale limits plan.down;
  bytes = bytes_of scale (plan.sent + length plan.last);
  left = bytes_of scale (length plan.last);
  downtime = downtime_of scale limits plan.down;
  is_kept = nat_le (downtime_of scale limits plan.down) limits.downtime;
}

-- what the plan of a guest of `pages` pages with these touches comes to
pub record IsForecastOf (pages : ℕ) (touches : List GuestTouch) (scale : TraceScale) (limits : Limits)
    (s : MigrationSettings) (forecast : LookForecast) : Type 0 where
  pub started : s.start ≤ last_tick_of touches
  pub plan : HypervisorPlan
  pub is_plan : IsHypervisorPlan pages touches (look_settings scale s (last_tick_of touches)) plan
  pub is : forecast ≡ forecast_of scale limits s.start (numbers_of pages touches plan)

-- that, or nothing if the migration begins after the last tick
abbrev pub IsForecast : ℕ → List GuestTouch → TraceScale → Limits → MigrationSettings → Option LookForecast → Type 0
IsForecast pages touches scale limits s None = last_tick_of touches < s.start
IsForecast pages touches scale limits s (Some forecast) = IsForecastOf pages touches scale limits s forecast
