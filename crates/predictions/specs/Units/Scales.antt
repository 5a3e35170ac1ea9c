-- What ticks and pages of a trace stand for. Units of time and of the guest's memory are this project's own.
use Rattle.std.specs.Prelude.{ℕ, ◌*◌, ◌/◌, ◌^◌, ◌≤◌, ◌&&◌, nat_le, not, if◌then◌else◌, Option, Some, None}
use Rattle.rate_limit.specs.Refusals.{is_between}
use Rattle.predictions.specs.declared.units.error.UnitsError.{UnitsError}
use Rattle.predictions.specs.declared.units.error.UnitsError.TheVariants as errors

-- the length of a tick in microseconds, the bytes of a page, how many of the guest's pages were recorded, and how many
-- it has
pub record TraceScale : Type 0 where
  pub tick : ℕ
  pub page : ℕ
  pub sampled : ℕ
  pub guest : ℕ

abbrev pub scale_with : ℕ → ℕ → ℕ → ℕ → TraceScale
scale_with tick page sampled guest = record { tick = tick; page = page; sampled = sampled; guest = guest }

-- the scales that are accepted
pub record IsScale (scale : TraceScale) : Type 0 where
  pub tick_low : 1 ≤ scale.tick
  pub tick_high : scale.tick ≤ 1_000_000
  pub page_low : 16 ≤ scale.page
  pub page_high : scale.page ≤ 4_096
  pub sampled_low : 1 ≤ scale.sampled
  pub sampled_high : scale.sampled ≤ scale.guest
  pub guest_high : scale.guest ≤ 2 ^ 32

-- what a scale is refused for
abbrev pub scale_refusal : TraceScale → Option UnitsError
scale_refusal scale =
    if not (is_between 1 1_000_000 scale.tick) then Some errors.Tick
    else (if not (is_between 16 4_096 scale.page) then Some errors.Page
    else (if not (is_between 1 scale.guest scale.sampled && nat_le scale.guest (2 ^ 32)) then Some errors.Sampled
    else None))

-- A rate of the guest, in bytes a second, as a rate of the trace: pages per 1,000 ticks, rounded down. The trace has
-- the sampled share of the guest's pages.
abbrev pub rate_of : TraceScale → ℕ → ℕ
rate_of scale bytes = bytes * scale.tick * scale.sampled / (1_000 * scale.page * scale.guest)

-- how many whole ticks there are in a number of microseconds, and how many microseconds in a number of ticks
abbrev pub ticks_in : TraceScale → ℕ → ℕ
ticks_in scale time = time / scale.tick

abbrev pub micros_of : TraceScale → ℕ → ℕ
micros_of scale ticks = ticks * scale.tick

-- how many bytes of the guest this many pages of the trace stand for, rounded down
abbrev pub bytes_of : TraceScale → ℕ → ℕ
bytes_of scale pages = pages * scale.page * scale.guest / scale.sampled
