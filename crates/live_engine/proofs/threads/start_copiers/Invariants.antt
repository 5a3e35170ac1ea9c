use Rattle.std.proofs.Common.{◌≡◌, List, [], length, ◌++◌, slice_index_or}
use Rattle.std.specs.List.{All}
use Rattle.std.specs.Vec.Iter.{into_iter_items}
use Rattle.live_tasks.specs.CopierStates.{CopierStateView, IsCopierState}
use Rattle.live_engine.specs.Lists.{rows_of}
use Rattle.live_engine.specs.Seated.{EachAt, copy_task}
use Rattle.live_engine.proofs.threads.start_copiers.Given as goal

abbrev pub invariant-loop-seat : goal.invariant-loop-seat
invariant-loop-seat g l = record {
  can_next : (goal.iterator-loop-seat g).can_next l.seat-iterator;
  is_finite : (goal.iterator-loop-seat g).is_finite l.seat-iterator;
  count : length l.handles.items ≡ length l.yielded;
  rest : l.yielded ++ into_iter_items l.seat-iterator ≡ l.fn.seats.items;
  count_left : length l.states.items ≡ length (into_iter_items l.seat-iterator);
  passed : (front : List CopierStateView) × (length front ≡ length l.yielded)
      × (front ++ l.states.items ≡ l.fn.states.items);
  states : All (IsCopierState (g.W.WriteLog.trace l.round.trace.now) l.round.streams) l.states.items;
  started : EachAt (λ h i. h.promise ≡ copy_task (g.W.WriteLog.trace l.round.trace.now) l.round.skip l.round.table.now
      l.round.streams i (slice_index_or (rows_of l.fn.states.items) i [])) l.handles.items;
}
