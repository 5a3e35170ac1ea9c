-- Sums of the results of plans on their way. No contract of a public call cites it.
use Rattle.std.specs.Prelude.{◌≡◌, ℕ, ◌*◌, ◌^◌, ◌≤◌, List, map}
use Rattle.std.specs.List.{sum, sum_by}
use Rattle.predictions.specs.Units.Scales.{TraceScale}
use Rattle.migration_model.specs.Rates.{MigrationSettings}
use Rattle.migration_model.specs.Touches.{GuestTouch}
use Rattle.predictions.specs.Redrawn.Draws.{draws_of}
use Rattle.predictions.specs.Redrawn.Errors.{AreRedrawn, time_of, pause_of}
use Rattle.predictions.specs.declared.course.Course.{Course}
use Rattle.predictions.specs.declared.course.Manner.{Manner}
use Rattle.predictions.specs.declared.redrawn.spread.Spread.{Spread}
use Rattle.predictions.specs.declared.redrawn.sums.Sums.{Sums}

-- the sum of some numbers, and that of their squares
pub record IsSpread (numbers : List ℕ) (spread : Spread) : Type 0 where
  pub sum_is : spread.sum ≡ sum numbers
  pub squares_are : spread.squares ≡ sum_by (λ x. x * x) numbers

-- the sums of the results of some plans
pub record AreSums (scale : TraceScale) (s : MigrationSettings) (courses : List Course) (sums : Sums) : Type 0 where
  pub sent : IsSpread (map (λ course. course.total) courses) sums.sent
  pub time : IsSpread (map (time_of scale s) courses) sums.time
  pub pause : IsSpread (map (pause_of scale) courses) sums.pause

-- the sums of the plans of the first `count` draws, by a manner
pub record AreSumsOf (manner : Manner) (pages : ℕ) (touches : List GuestTouch)
    (s : MigrationSettings) (scale : TraceScale) (count : ℕ) (sums : Sums) : Type 0 where
  pub courses : List Course
  pub redrawn : AreRedrawn manner touches scale s (draws_of scale.sampled pages count) courses
  pub sums_are : AreSums scale s courses sums

-- no sum is more than its plans can come to
pub record AreLow (sums : Sums) : Type 0 where
  pub sent : sums.sent.sum ≤ sums.count * 131_203_072
  pub sent_squares : sums.sent.squares ≤ sums.count * 17_214_246_102_237_184
  pub time : sums.time.sum ≤ sums.count * 2 ^ 52
  pub time_squares : sums.time.squares ≤ sums.count * 2 ^ 104
  pub pause : sums.pause.sum ≤ sums.count * 2 ^ 52
  pub pause_squares : sums.pause.squares ≤ sums.count * 2 ^ 104
