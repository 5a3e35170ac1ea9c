use Rattle.std.proofs.Common.{ℕ, List}
use Rattle.std.specs.Vec.Iter.{into_iter_items}
use Rattle.migration_model.specs.Trace.{GuestTrace}
use Rattle.stop_copy.specs.Pieces.{AreMadeOf}
use Rattle.stop_copy.proofs.Pieced.{AreJoined}
use Rattle.stop_copy.proofs.workers.all_frames.Given as goal

abbrev pub invariant-loop-piece : goal.invariant-loop-piece
invariant-loop-piece l = (trace : GuestTrace) (versions pages : List ℕ) → AreMadeOf trace versions pages l.fn.made.items
    → AreJoined trace versions pages l.all.items (into_iter_items l.piece-iterator)
