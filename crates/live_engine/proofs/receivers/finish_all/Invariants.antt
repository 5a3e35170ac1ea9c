use Rattle.std.proofs.Common.{◌≡◌, ◌++◌, List, Some, Vec, Global, length, slice_get}
use Rattle.std.specs.Prelude.{ℕ}
use Rattle.std.specs.Vec.Iter.{into_iter_items}
use Rattle.migration_model.specs.Parts.{GuestPart}
use Rattle.stream_lanes.specs.Ends.{IsSentOn, OutView}
use Rattle.stream_receivers.specs.Receivers.{AreFrames, HasFrames, ReceiverView}
use Rattle.live_engine.proofs.receivers.finish_all.Given as goal

abbrev pub invariant-loop-receiver : goal.invariant-loop-receiver
invariant-loop-receiver l = record {
  can_next : goal.iterator-loop-receiver.can_next l.receiver-iterator;
  is_finite : goal.iterator-loop-receiver.is_finite l.receiver-iterator;
  all : l.yielded ++ into_iter_items l.receiver-iterator ≡ l.fn.receivers.items;
  passed : (front : List (Vec OutView Global)) × (length front ≡ length l.yielded)
      × (front ++ into_iter_items l.columns ≡ l.fn.columns.items);
  count : length l.parts.items ≡ length l.yielded;
  each : (stream : ℕ) (outs : Vec OutView Global) (receiver : ReceiverView) (part : GuestPart)
      → slice_get l.fn.columns.items stream ≡ Some outs
      → slice_get l.fn.receivers.items stream ≡ Some receiver → slice_get l.parts.items stream ≡ Some part
      → AreFrames receiver.part.shape (IsSentOn outs.items)
      → HasFrames receiver.part.shape (IsSentOn outs.items) part;
}
