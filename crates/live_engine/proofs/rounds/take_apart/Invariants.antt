use Rattle.std.proofs.Common.{◌≡◌, ◌++◌, map}
use Rattle.std.specs.Vec.Iter.{into_iter_items}
use Rattle.live_engine.proofs.rounds.take_apart.Given as goal

abbrev pub invariant-loop-copier : goal.invariant-loop-copier
invariant-loop-copier l = record {
  can_next : goal.iterator-loop-copier.can_next l.copier-iterator;
  is_finite : goal.iterator-loop-copier.is_finite l.copier-iterator;
  all : l.yielded ++ into_iter_items l.copier-iterator ≡ l.fn.copiers.items;
  seats : l.seats.items ≡ map (λ c. c.seat) l.yielded;
  states : l.states.items ≡ map (λ c. c.state) l.yielded;
}
