use Rattle.std.proofs.Common.{◌≡◌, ℕ, ◌+◌, List, ◌++◌, map, length, get_or, sym, ap, subst, ◌∙◌, arith}
use Rattle.std.specs.Prelude.{All}
use Rattle.std.specs.Mem.Slots.{slots_items}
use Rattle.dirty_core.specs.Start.{Start, IsStart}
use Rattle.dirty_words.specs.Facts.{Facts, of_guest, of_copier, opening_facts}
use Rattle.dirty_words.specs.Seats.{TableView, GuestView, CopyView, closed_view}
use Rattle.dirty_words.specs.Closing.{IsLeftByEvents}
use Rattle.dirty_words.proofs.Openings.{enters_table}
use Rattle.dirty_words.proofs.Leaving.{IsStart-left, IsLeftByEvents-final, EachPageLeft-events, guests_of_table}
use Rattle.dirty_words.proofs.Leaving.{copiers_of_table}
use Rattle.dirty_words.proofs.table.RoundTable.close.Goals as goal

pub load_new_seat-seat-requires : goal.load_new_seat-seat-requires
load_new_seat-seat-requires c =
    let words = c.self.invariant.words in
    let some = c.self.invariant.is_start.some in
    let places = ap length c.self.invariant.places in (
      omega (arith, words, some, places),
      enters_table c.self.inside.table.shared.key c.self.inside.table.shared.table_id.slots 0
          (opening_facts c.self.inside.table.shared.key),
    )

pub join_guests-requires-clause-guests : goal.join_guests-requires-clause-guests
join_guests-requires-clause-guests c =
    let all : All (λ (guest : GuestView). guest.id ≡ c.args.self.id) c.args.guests.items =
    guests_of_table c.args.self c.args.guests.items c.requires.guests in
    subst (λ z. All (λ (guest : GuestView). guest.id ≡ z) c.args.guests.items)
    (ap (λ (t : TableView). t.id) (sym c.self.view_is)) all

pub join_copiers-requires-clause-copiers : goal.join_copiers-requires-clause-copiers
join_copiers-requires-clause-copiers c =
    let all : All (λ (copier : CopyView). copier.id ≡ c.args.self.id) c.args.copiers.items =
    copiers_of_table c.args.self c.args.copiers.items c.requires.copiers in
    subst (λ z. All (λ (copier : CopyView). copier.id ≡ z) c.args.copiers.items)
    (ap (λ (t : TableView). t.id) (sym c.self.view_is)) all

pub returns-clause-left : goal.returns-clause-left
returns-clause-left c =
    let key : Start = c.self.inside.table.shared.key in
    let words : List ℕ = slots_items c.close_with-closed.result.words in
    let slots : List ℕ = slots_items c.close_with-closed.result.slots in
    let guests : List Facts = map (λ (guest : GuestView). of_guest guest.facts) c.args.guests.items in
    let copiers : List Facts = map (λ (copier : CopyView). of_copier copier.facts) c.args.copiers.items in
    let places_len : length c.self.inside.places.items ≡ length key.places = ap length c.self.invariant.places in
    let dirty_len : length c.self.inside.dirty.items ≡ length key.dirty = ap length c.self.invariant.dirty in
    let first : c.len.result ≡ length key.dirty = grind (arith, c.len.ensures, dirty_len) in
    let versions = c.copy_places-versions in
    let dirty = c.copy_dirty-dirty in
    let view : c.join_copiers.new.seat.me.0 ≡ guests ++ copiers =
    ap (λ m. m.0) c.join_copiers.ensures.joined
    ∙ ap (λ v. v ++ copiers) (ap (λ m. m.0) c.join_guests.ensures.joined
    ∙ ap (λ v. v ++ guests) (ap (λ m. m.0) c.load_new_seat-seat.ensures.2)) in
    subst (λ k. IsLeftByEvents k c.args.guests.items c.args.copiers.items
    (closed_view versions.result.items dirty.result.items))
    (ap (λ (t : TableView). t.start) c.self.view_is)
    (IsLeftByEvents-final key c.join_copiers.new.seat.id c.join_copiers.new.seat.me.0 words slots c.args.guests.items
    c.args.copiers.items
    versions.result.items dirty.result.items view c.close_with-closed.ensures.values.2
    (versions.ensures.len ∙ places_len)
    (λ page low. versions.ensures.places page (omega (arith, low, places_len))
    ∙ ap (λ n. get_or words (n + page) 0) first)
    (dirty.ensures.len ∙ dirty_len)
    (λ word low. dirty.ensures.words word (omega (arith, low, dirty_len))))

pub returns-clause-pages : goal.returns-clause-pages
returns-clause-pages c = EachPageLeft-events c.args.self c.args.guests.items c.args.copiers.items _ c.requires.guests
    c.requires.copiers (returns-clause-left c)

pub returns-clause-next : goal.returns-clause-next
returns-clause-next c = IsStart-left c.args.self.start c.args.guests.items c.args.copiers.items _
    (subst (λ (k : Start). IsStart k) (ap (λ (t : TableView). t.start) c.self.view_is) c.self.invariant.is_start)
    (returns-clause-left c)
