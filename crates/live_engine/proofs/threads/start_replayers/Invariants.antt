use Rattle.std.proofs.Common.{◌≡◌, length, ◌++◌}
use Rattle.std.specs.Vec.Iter.{into_iter_items}
use Rattle.live_engine.specs.Seated.{EachAt, replay_task}
use Rattle.live_engine.proofs.threads.start_replayers.Given as goal

abbrev pub invariant-loop-seat : goal.invariant-loop-seat
invariant-loop-seat g l = record {
  can_next : (goal.iterator-loop-seat g).can_next l.seat-iterator;
  is_finite : (goal.iterator-loop-seat g).is_finite l.seat-iterator;
  count : length l.handles.items ≡ length l.yielded;
  rest : l.yielded ++ into_iter_items l.seat-iterator ≡ l.fn.seats.items;
  started : EachAt (λ h i. h.promise ≡ replay_task (g.W.WriteLog.trace l.round.trace.now) l.round.table.now l.ticks.from
      l.ticks.to i) l.handles.items;
}
