use Rattle.std.proofs.Common.{◌≡◌, ◌-◌, ◌++◌, [], map}
use Rattle.std.specs.List.{range_with_len}
use Rattle.dirty_words.specs.Facts.{first_guest, guest_entries, copier_entries}
use Rattle.dirty_words.specs.Seats.{guest_view}
use Rattle.dirty_words.proofs.opening.cut_guests.Given as goal

abbrev pub invariant-loop-number : goal.invariant-loop-number
invariant-loop-number l = record {
  one_table : l.seat.table_id ≡ l.table.table_id;
  left : l.seat.me ≡ (
    guest_entries l.opening l.number (l.opening.guests - l.number)
        ++ copier_entries l.opening 0 l.opening.copiers,
    [],
  );
  cut : l.guests.items ≡ map (λ n. guest_view l.table.table_id (first_guest l.opening n)) (range_with_len 0 l.number);
}
