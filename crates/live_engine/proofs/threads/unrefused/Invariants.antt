use Rattle.std.proofs.Common.{◌≡◌, map, Ok, ◌++◌}
use Rattle.std.specs.Vec.Iter.{into_iter_items}
use Rattle.live_engine.proofs.threads.unrefused.Given as goal

abbrev pub invariant-loop-copier : goal.invariant-loop-copier
invariant-loop-copier l = record {
  can_next : goal.iterator-loop-copier.can_next l.copier-iterator;
  is_finite : goal.iterator-loop-copier.is_finite l.copier-iterator;
  all : l.yielded ++ into_iter_items l.copier-iterator ≡ l.fn.copied.items;
  same : map Ok l.copiers.items ≡ l.yielded;
}
