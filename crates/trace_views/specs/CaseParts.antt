-- Cases on their way, planned in parts by workers. No contract of a public call cites it.
use Rattle.std.specs.Prelude.{◌≡◌, ℕ, ◌+◌, ◌/◌, ◌%◌, ◌<◌, min, List, length, slice_index_or, Result, IfOk, Vec}
use Rattle.std.specs.Fork.{slice_chunk}
use Rattle.std.specs.Global.{Global}
use Rattle.migration_model.specs.Rates.{MigrationSettings}
use Rattle.migration_model.specs.Touches.{GuestTouch}
use Rattle.predictions.specs.Starts.Cases.{AreCases}
use Rattle.predictions.specs.Units.Scales.{TraceScale}
use Rattle.predictions.specs.declared.course.Manner.{Manner}
use Rattle.predictions.specs.declared.starts.planned.PlannedCase.{PlannedCase}

-- for each part of `size` of the settings, the last of which may be shorter, its cases, or memory ran out
pub record ArePlannedParts {E : Type 0} (manner : Manner) (pages : ℕ) (touches : List GuestTouch) (scale : TraceScale)
    (size : ℕ) (settings : List MigrationSettings) (parts : List (Result (Vec PlannedCase Global) E)) : Type 0 where
  pub some : 0 < size
  pub count : length parts ≡ length settings / size + min 1 (length settings % size)
  pub each : (n : ℕ) (d : Result (Vec PlannedCase Global) E) → n < length parts → IfOk (slice_index_or parts n d)
      (λ cases. AreCases manner pages touches scale (slice_chunk settings size n) cases.items)
