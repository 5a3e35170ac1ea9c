use Rattle.std.proofs.Common.{◌≡◌, ◌++◌}
use Rattle.std.specs.Vec.Iter.{into_iter_items}
use Rattle.live_engine.specs.Lists.{lists_of}
use Rattle.live_engine.proofs.live_round.list.Given as goal

abbrev pub invariant-loop-state : goal.invariant-loop-state
invariant-loop-state l = record {
  can_next : goal.iterator-loop-state.can_next l.state-iterator;
  is_finite : goal.iterator-loop-state.is_finite l.state-iterator;
  all : l.yielded ++ into_iter_items l.state-iterator ≡ l.fn.states.items;
  lists : l.round ≡ lists_of l.yielded;
  kept : l.kept.items ≡ l.yielded;
}
