-- Starts that are spread over a trace are never refused.
use Rattle.std.proofs.Common.{◌≡◌, ℕ, ◌+◌, ◌-◌, ◌*◌, ◌/◌, ◌^◌, ◌<◌, ◌≤◌, Option, None, Some, Result, Ok, Err, max}
use Rattle.std.proofs.Common.{arith, refl, subst, sym}
use Rattle.std.proofs.Math.Nat.{div-le_of_le-mul, div-mul-le_self, mul-le-mul_right}
use Rattle.std.proofs.lemmas.Grind.{div_ceil_times}
use Rattle.std.specs.Int.{div_ceil}
use Rattle.std.specs.Prelude.{IfErr, IfSome, unwrap_or}
use Rattle.migration_model.specs.Rates.{AreSettings, MigrationSettings}
use Rattle.predictions.specs.Starts.Ranges.{spread_starts}
use Rattle.predictions.specs.Starts.{AreAccepted, RefusesStarts, case_from, count_of}
use Rattle.predictions.specs.declared.starts.cases.Starts.{Starts}
use Rattle.predictions.specs.declared.starts.error.StartsError.{StartsError}
use Rattle.predictions.specs.declared.starts.error.StartsError.TheVariants as errors
use Rattle.rate_limit.specs.Refusals.{refusal_of}
use Rattle.rate_limit.specs.declared.error.SettingsError.{SettingsError}
use Rattle.rate_limit.proofs.Ranges.{refused_lem}

-- the twentieth of a span, rounded up, and at least 1
abbrev twentieth : ℕ → ℕ
twentieth span = max (div_ceil span 20) 1

few_parts : (span same : ℕ) → same ≡ span → same / twentieth span ≤ 20
few_parts span same is =
    let times = (div_ceil_times span 20 (omega arith)).0 in
    div-le_of_le-mul (twentieth span) (omega (arith, times, is))

low_base : (base : Option ℕ) (start limit : ℕ) → IfSome base (λ tick. tick ≤ start) → start < limit
    → unwrap_or base 0 < limit
low_base None start limit is low = omega (arith, low)
low_base (Some base) start limit is low = omega (arith, is, low)

base_before : (base : Option ℕ) (more : ℕ) → IfSome base (λ tick. tick ≤ unwrap_or base 0 + more)
base_before None more = tt
base_before (Some base) more = omega arith

-- these settings with another start
started : (s : MigrationSettings) (start : ℕ) → AreSettings s → start < 2 ^ 40
    → IfSome s.base (λ base. base ≤ start) → AreSettings (record s { start = start })
started s start are low late = record {
  min_low = are.min_low;
  min_high = are.min_high;
  max_low = are.max_low;
  max_high = are.max_high;
  increment_high = are.increment_high;
  threshold_low = are.threshold_low;
  threshold_high = are.threshold_high;
  rounds_low = are.rounds_low;
  rounds_high = are.rounds_high;
  window_low = are.window_low;
  window_high = are.window_high;
  hot_low = are.hot_low;
  hot_high = are.hot_high;
  start_high = low;
  workers_low = are.workers_low;
  workers_high = are.workers_high;
  streams_low = are.streams_low;
  streams_high = are.streams_high;
  replayers_low = are.replayers_low;
  replayers_high = are.replayers_high;
  lane_low = are.lane_low;
  lane_high = are.lane_high;
  base_high = late;
}

-- a start by its number comes no later than the last tick, or than the first start
within : (first last every number : ℕ) → number < (max last first - first) / every + 1
    → first + number * every ≤ max last first
within first last every number low =
    let span = max last first - first in
    let few : number * every ≤ span / every * every = mul-le-mul_right every (omega (arith, low)) in
    omega (arith, few, div-mul-le_self span every)

pub only_memory : (s : MigrationSettings) (last_tick : ℕ) → AreSettings s → last_tick < 2 ^ 40 → (e : StartsError)
    → RefusesStarts s (spread_starts s last_tick) last_tick e → e ≡ errors.Memory
only_memory s last_tick are low errors.Memory is = refl
only_memory s last_tick are low errors.TooMany is =
    let first = unwrap_or s.base 0 in
    let many : 4_096 < (max last_tick first - first) / twentieth (last_tick - first) + 1 = is in
    let few = few_parts (last_tick - first) (max last_tick first - first) (omega arith) in
    absurd (omega (arith, many, few))
only_memory s last_tick are low (errors.Settings e) is =
    let first = unwrap_or s.base 0 in
    let every = twentieth (last_tick - first) in
    let last : first + is.number * every ≤ max last_tick first = within first last_tick every is.number is.is_start in
    let base = low_base s.base s.start (2 ^ 40) are.base_high are.start_high in
    let early : first + is.number * every < 2 ^ 40 = omega (arith, last, base, low) in
    let late = base_before s.base (is.number * every) in
    absurd (refused_lem (case_from s (spread_starts s last_tick) last_tick is.number) e is.refused
    (started s (first + is.number * every) are early late))

none_of : (refusal : Option SettingsError) → ((e : SettingsError) → refusal ≡ Some e → ⊥) → refusal ≡ None
none_of None never = refl
none_of (Some e) never = absurd (never e refl)

-- none of these starts is refused
pub spread_accepted : (s : MigrationSettings) (starts : Starts) (last_tick : ℕ) → starts ≡ spread_starts s last_tick
    → AreSettings s → last_tick < 2 ^ 40 → AreAccepted s starts last_tick
spread_accepted s starts last_tick same are low =
    let first = unwrap_or s.base 0 in
    let every = twentieth (last_tick - first) in
    let base = low_base s.base s.start (2 ^ 40) are.base_high are.start_high in
    let all : AreAccepted s (spread_starts s last_tick) last_tick = λ number is_start.
    let last : first + number * every ≤ max last_tick first = within first last_tick every number is_start in
    let early : first + number * every < 2 ^ 40 = omega (arith, last, base, low) in
    let late = base_before s.base (number * every) in
    none_of (refusal_of (case_from s (spread_starts s last_tick) last_tick number))
    (λ e refused. refused_lem (case_from s (spread_starts s last_tick) last_tick number) e refused
    (started s (first + number * every) are early late)) in
    subst (λ (some : Starts). AreAccepted s some last_tick) (sym same) all

-- there are few of these starts
pub spread_few : (s : MigrationSettings) (starts : Starts) (last_tick : ℕ) → starts ≡ spread_starts s last_tick
    → count_of starts last_tick ≤ 21
spread_few s starts last_tick same =
    let first = unwrap_or s.base 0 in
    let few = few_parts (last_tick - first) (max last_tick first - first) (omega arith) in
    subst (λ (some : Starts). count_of some last_tick ≤ 21) (sym same) (omega (arith, few))

pub refused_for_memory : {T : Type 0} (r : Result T StartsError) (s : MigrationSettings) (starts : Starts)
    (last_tick : ℕ) → starts ≡ spread_starts s last_tick → AreSettings s → last_tick < 2 ^ 40
    → IfErr r (RefusesStarts s starts last_tick) → IfErr r (λ e. e ≡ errors.Memory)
refused_for_memory (Ok cases) s starts last_tick same are low is = tt
refused_for_memory (Err e) s starts last_tick same are low is =
    only_memory s last_tick are low e (subst (λ (some : Starts). RefusesStarts s some last_tick e) same is)
