use Rattle.std.proofs.Common.{◌≡◌, ◌++◌, List, length}
use Rattle.std.specs.List.{All}
use Rattle.std.specs.Vec.Iter.{into_iter_items}
use Rattle.migration_model.specs.Frames.{IsFrame, PageFrame}
use Rattle.stop_copy.specs.Copies.{after_dealing}
use Rattle.stop_copy.proofs.dealing.deal_out.Given as goal

abbrev pub invariant-loop-frame : goal.invariant-loop-frame
invariant-loop-frame l = record {
  streams : l.dealer.streams ≡ l.fn.dealer.streams;
  count : length l.parts.items ≡ length l.fn.parts.items;
  fit : All (λ part. All (IsFrame part.shape) (into_iter_items l.frame-iterator)) l.parts.items;
  dealt : (rest : List PageFrame) → after_dealing l.dealer.next l.parts.items (into_iter_items l.frame-iterator ++ rest)
      ≡ after_dealing l.fn.dealer.next l.fn.parts.items (l.fn.frames.items ++ rest);
}
