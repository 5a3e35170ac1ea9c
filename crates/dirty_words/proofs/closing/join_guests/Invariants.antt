use Rattle.std.proofs.Common.{◌≡◌, ◌++◌, [], map}
use Rattle.std.specs.Vec.Iter.{into_iter_items}
use Rattle.dirty_words.specs.Facts.{of_guest}
use Rattle.dirty_words.proofs.closing.join_guests.Given as goal

abbrev pub invariant-loop-guest : goal.invariant-loop-guest
invariant-loop-guest l = record {
  one_table : l.seat.table_id ≡ l.initial.seat.table_id;
  joined : l.seat.me ≡ (l.initial.seat.me.0 ++ map (λ guest. of_guest guest.facts) l.yielded, []);
  all : l.yielded ++ into_iter_items l.guest-iterator ≡ l.fn.guests.items;
}
