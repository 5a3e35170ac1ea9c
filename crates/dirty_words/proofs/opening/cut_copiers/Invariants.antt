use Rattle.std.proofs.Common.{◌≡◌, ◌-◌, [], map}
use Rattle.std.specs.List.{range_with_len}
use Rattle.dirty_words.specs.Facts.{first_copier, copier_entries}
use Rattle.dirty_words.specs.Seats.{copy_view}
use Rattle.dirty_words.proofs.opening.cut_copiers.Given as goal

abbrev pub invariant-loop-number : goal.invariant-loop-number
invariant-loop-number l = record {
  one_table : l.seat.table_id ≡ l.table.table_id;
  left : l.seat.me ≡ (copier_entries l.opening l.number (l.opening.copiers - l.number), []);
  cut : l.copiers.items ≡ map (λ n. copy_view l.table.table_id (first_copier l.opening n)) (range_with_len 0 l.number);
}
