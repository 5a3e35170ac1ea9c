-- How the fields of tables and seats say what contracts see of them.
use Rattle.std.specs.Prelude.{◌≡◌, ℕ, ◌+◌, [], length, slice_index}
use Rattle.dirty_core.specs.Start.{IsStart}
use Rattle.dirty_words.specs.Facts.{GuestFacts, CopyFacts, last_place, OwnsPage, GuestFits, CopyFits}
use Rattle.dirty_words.specs.Plays.{guest_in, copier_in, lone_guest, lone_copier}
use Rattle.dirty_words.specs.declared.table.RoundTable.TheInside.{Inside as TableFields}
use Rattle.dirty_words.specs.declared.guest.GuestSeat.TheInside.{Inside as GuestFields}
use Rattle.dirty_words.specs.declared.copier.CopySeat.TheInside.{Inside as CopyFields}

pub record IsTable (table : TableFields) : Type 0 where
  pub words : table.table.shared.table_id.words ≡ length table.dirty.items + length table.places.items
  pub slots : table.table.shared.table_id.slots ≡ 0
  pub places : table.places.items ≡ table.table.shared.key.places
  pub dirty : table.dirty.items ≡ table.table.shared.key.dirty
  pub is_start : IsStart table.table.shared.key

abbrev pub guest_facts : GuestFields → GuestFacts
guest_facts seat = guest_in seat.seat.me.0

abbrev pub copy_facts : CopyFields → CopyFacts
copy_facts seat = copier_in seat.seat.me.0

-- only the guest is in its seat's view
pub record IsGuestSeat (seat : GuestFields) : Type 0 where
  pub alone : seat.seat.me ≡ (lone_guest (guest_facts seat), [])
  pub number : seat.number ≡ (guest_facts seat).number
  pub guests : seat.guests ≡ (guest_facts seat).start.guests
  pub pages : length seat.last.items ≡ length (guest_facts seat).start.places
  pub last : (page : ℕ) → OwnsPage (guest_facts seat) page
      → slice_index seat.last.items page ≡ last_place (guest_facts seat) page
  pub pending : seat.pending ≡ (guest_facts seat).pending
  pub fits : GuestFits (guest_facts seat)

-- only the copier is in its seat's view
pub record IsCopySeat (seat : CopyFields) : Type 0 where
  pub alone : seat.seat.me ≡ (lone_copier (copy_facts seat), [])
  pub number : seat.number ≡ (copy_facts seat).number
  pub copiers : seat.copiers ≡ (copy_facts seat).start.copiers
  pub held : seat.held.items ≡ (copy_facts seat).held
  pub fits : CopyFits (copy_facts seat)
  pub is_start : IsStart (copy_facts seat).start
