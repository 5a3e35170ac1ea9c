use Rattle.std.proofs.Common.{◌<◌, ℕ, List, length}
use Rattle.std.specs.List.{All}
use Rattle.migration_model.specs.Rates.{MigrationSettings}
use Rattle.migration_model.specs.Touches.{GuestTouch}
use Rattle.sweep_report.specs.Sweeping.{AreNumbered, AreTaken}
use Rattle.sweep_report.proofs.sweeping.place.Given as goal

abbrev pub invariant-loop-one : goal.invariant-loop-one
invariant-loop-one l = record {
  low : All (λ one. one.number < length l.taken.items) l.one-iterator.rest.items;
  all : (pages : ℕ) (touches : List GuestTouch) (cases : List MigrationSettings)
      → AreNumbered pages touches cases l.fn.made.items
      → AreTaken pages touches cases l.fn.taken.items → AreNumbered pages touches cases l.one-iterator.rest.items
      × AreTaken pages touches cases l.taken.items;
}
