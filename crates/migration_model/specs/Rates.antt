-- The settings of a migration, how long rounds last, how fast pages are dirtied, and when pre-copying ends. After Clark
-- and others, "Live Migration of Virtual Machines" (2005), section 5.3, on dynamic rate limiting. The first round has
-- the least rate. Later ones have the previous dirtying rate plus a constant. Rounds end if that is above the greatest
-- rate, or if little remains. A rate is in pages per 1,000 ticks.
use Rattle.std.specs.Prelude.{ℕ, ◌+◌, ◌*◌, ◌^◌, ◌<◌, ◌≤◌, ◌==◌, nat_lt, max, Bool, if◌then◌else◌, List, Option, IfSome}
use Rattle.std.specs.Prelude.{codes}
use Rattle.std.specs.Int.{div_ceil}

-- The settings of a migration and of a report. If there is a base, the destination begins with the guest's memory
-- before that tick: a warm start, which is this project's own.
pub record MigrationSettings : Type 0 where
  pub min : ℕ
  pub max : ℕ
  pub increment : ℕ
  pub threshold : ℕ
  pub rounds : ℕ
  pub start : ℕ
  pub window : ℕ
  pub hot : ℕ
  pub workers : ℕ
  pub streams : ℕ
  pub replayers : ℕ
  pub lane : ℕ
  pub skip : Bool
  pub base : Option ℕ

-- the settings that are accepted
pub record AreSettings (s : MigrationSettings) : Type 0 where
  pub min_low : 1 ≤ s.min
  pub min_high : s.min ≤ 1_000_000
  pub max_low : s.min ≤ s.max
  pub max_high : s.max ≤ 1_000_000
  pub increment_high : s.increment ≤ 1_000_000
  pub threshold_low : 1 ≤ s.threshold
  pub threshold_high : s.threshold ≤ 65_536
  pub rounds_low : 1 ≤ s.rounds
  pub rounds_high : s.rounds ≤ 64
  pub window_low : 1 ≤ s.window
  pub window_high : s.window ≤ 2 ^ 40
  pub hot_low : 1 ≤ s.hot
  pub hot_high : s.hot ≤ 1_048_576
  pub start_high : s.start < 2 ^ 40
  pub workers_low : 1 ≤ s.workers
  pub workers_high : s.workers ≤ 16
  pub streams_low : 1 ≤ s.streams
  pub streams_high : s.streams ≤ 16
  pub replayers_low : 1 ≤ s.replayers
  pub replayers_high : s.replayers ≤ 16
  pub lane_low : 1 ≤ s.lane
  pub lane_high : s.lane ≤ 65_536
  pub base_high : IfSome s.base (λ base. base ≤ s.start)

-- How long it takes to send this many pages at a rate, in ticks, rounded up. The rounding is this project's own.
abbrev pub duration_of : ℕ → ℕ → ℕ
duration_of pages rate = div_ceil (1_000 * pages) rate

-- The rate at which this many pages were dirtied in these ticks, in pages per 1,000 ticks, rounded up. The rounding is
-- this project's own.
abbrev pub dirtying_rate_of : ℕ → ℕ → ℕ
dirtying_rate_of pages ticks = div_ceil (1_000 * pages) ticks

-- the rate of the next round before it is raised to the least one: the dirtying rate plus the increment (Clark and
-- others)
abbrev pub candidate_of : MigrationSettings → ℕ → ℕ → ℕ
candidate_of s dirtied ticks = dirtying_rate_of dirtied ticks + s.increment

-- why pre-copying ends
pub data StopReason : Type 0 where
  few_remain : StopReason
  too_fast : StopReason
  rounds_done : StopReason

-- what comes after a round: one more at this rate, or the stop
pub data AfterRound : Type 0 where
  goes_on : ℕ → AfterRound
  stops : StopReason → AfterRound

-- What comes after a round that lasted these ticks and dirtied this many pages, when `done` rounds are done. Few pages
-- and a rate above the greatest are the ends that Clark and others have. This project's own are: that the increment
-- counts in the second test, the third test, the order of the tests, and that the next rate is raised to the least.
abbrev pub after_round : MigrationSettings → ℕ → ℕ → ℕ → AfterRound
after_round s dirtied ticks done =
    if nat_lt dirtied s.threshold then stops few_remain
    else (if nat_lt s.max (candidate_of s dirtied ticks) then stops too_fast
    else (if done == s.rounds then stops rounds_done
    else goes_on (max (candidate_of s dirtied ticks) s.min)))

-- the word that reports write for a reason
abbrev pub word_of : StopReason → List ℕ
word_of few_remain = codes "few"
word_of too_fast = codes "fast"
word_of rounds_done = codes "rounds"
