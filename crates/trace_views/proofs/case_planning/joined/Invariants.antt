use Rattle.std.proofs.Common.{ℕ, ◌*◌, List, take}
use Rattle.migration_model.specs.Rates.{MigrationSettings}
use Rattle.migration_model.specs.Touches.{GuestTouch}
use Rattle.predictions.specs.Starts.Cases.{AreCases}
use Rattle.predictions.specs.Units.Scales.{TraceScale}
use Rattle.predictions.specs.declared.course.Manner.{Manner}
use Rattle.trace_views.specs.CaseParts.{ArePlannedParts}
use Rattle.trace_views.proofs.case_planning.joined.Given as goal

abbrev pub invariant-loop-part : goal.invariant-loop-part
invariant-loop-part l = (manner : Manner) (pages : ℕ) (touches : List GuestTouch) (scale : TraceScale) (size : ℕ)
    (settings : List MigrationSettings) → ArePlannedParts manner pages touches scale size settings l.parts
    → AreCases manner pages touches scale (take (l.part-index * size) settings) l.cases.items
