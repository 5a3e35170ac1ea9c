use Rattle.std.proofs.Common.{◌≡◌, IfSome, fold}
use Rattle.std.specs.List.{All}
use Rattle.std.specs.Vec.Iter.{into_iter_items}
use Rattle.migration_model.specs.Frames.{IsFrame}
use Rattle.migration_model.specs.Parts.{join}
use Rattle.collector.specs.Tables.{with_slot}
use Rattle.collector.proofs.part.merge.Given as goal

abbrev pub invariant-loop-slot : goal.invariant-loop-slot
invariant-loop-slot l = record {
  shape : l.first.shape ≡ l.fn.first.shape;
  fit : All (λ slot. IfSome slot (IsFrame l.fn.first.shape)) (into_iter_items l.slot-iterator);
  left : fold with_slot l.first (into_iter_items l.slot-iterator) ≡ join l.fn.first l.fn.second;
}
