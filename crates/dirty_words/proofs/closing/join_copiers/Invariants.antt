use Rattle.std.proofs.Common.{◌≡◌, ◌++◌, [], map}
use Rattle.std.specs.Vec.Iter.{into_iter_items}
use Rattle.dirty_words.specs.Facts.{of_copier}
use Rattle.dirty_words.proofs.closing.join_copiers.Given as goal

abbrev pub invariant-loop-copier : goal.invariant-loop-copier
invariant-loop-copier l = record {
  one_table : l.seat.table_id ≡ l.initial.seat.table_id;
  joined : l.seat.me ≡ (l.initial.seat.me.0 ++ map (λ copier. of_copier copier.facts) l.yielded, []);
  all : l.yielded ++ into_iter_items l.copier-iterator ≡ l.fn.copiers.items;
}
