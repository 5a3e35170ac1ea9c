use Rattle.std.proofs.Common.{◌≡◌, ◌<◌, ◌++◌, ℕ, List, [], ◌∷◌, map, sym, ap, subst, ◌∙◌, arith}
use Rattle.std.proofs.lemmas.List.FromFn.{map-range_with_len_more}
use Rattle.std.specs.List.{range_with_len}
use Rattle.atomic_table.specs.Table.{State, Splits}
use Rattle.dirty_words.specs.Facts.{Facts, first_guest}
use Rattle.dirty_words.specs.Plays.{first_of, rest_of}
use Rattle.dirty_words.specs.Seats.{guest_view}
use Rattle.dirty_words.specs.Shows.{Shows}
use Rattle.dirty_words.proofs.Openings.{cuts_guest, first_guest_cut}
use Rattle.dirty_words.proofs.opening.cut_guests.Goals as goal

pub split_seat-cut-requires : goal.split_seat-cut-requires
split_seat-cut-requires c =
    let low : c.loop-number.number < c.args.opening.now.guests = omega arith in
    let view = c.loop-number.seat.me.0 in (
      c.loop-number.invariant.one_table,
      c.requires.table.1,
      subst (λ k. Splits (λ (s : State ℕ (List Facts)). Shows k s) c.loop-number.seat.id view (rest_of view)
          (first_of view)) (sym c.requires.key)
          (cuts_guest c.args.opening.now c.loop-number.seat.id c.loop-number.number view low
          (ap (λ m. m.0) c.loop-number.invariant.left)),
    )

pub first-requires-clause-alone : goal.first-requires-clause-alone
first-requires-clause-alone c =
    let low : c.loop-number.number < c.args.opening.now.guests = omega arith in
    let cut = first_guest_cut c.args.opening.now c.loop-number.number c.loop-number.seat.me.0 low
    (ap (λ m. m.0) c.loop-number.invariant.left) in
    c.split_seat-cut.ensures.4 ∙ (λ i. (cut.0 i, []))

pub loop-number-preserved : goal.loop-number-preserved
loop-number-preserved c =
    let low : c.loop-number.number < c.args.opening.now.guests = omega arith in
    let cut = first_guest_cut c.args.opening.now c.loop-number.number c.loop-number.seat.me.0 low
    (ap (λ m. m.0) c.loop-number.invariant.left) in
    let split = c.split_seat-cut.ensures in
    let none : c.loop-number.seat.me.1 ≡ [] = ap (λ m. m.1) c.loop-number.invariant.left in
    record {
      one_table = split.0 ∙ c.loop-number.invariant.one_table;
      left = split.2 ∙ (λ i. (cut.1 i, none i));
      cut =
          c.in_ok-push.ensures.items
          ∙ ap (λ xs. xs ++ c.in_ok-guest.guest ∷ []) c.loop-number.invariant.cut
          ∙ ap (λ x. map (λ n. guest_view c.args.table.now.table_id (first_guest c.args.opening.now n))
          (range_with_len 0 c.loop-number.number) ++ x ∷ [])
          (c.in_ok-guest.ensures ∙ ap (λ z. guest_view z (first_guest c.args.opening.now c.loop-number.number))
          (split.3 ∙ c.loop-number.invariant.one_table))
          ∙ sym (map-range_with_len_more (λ n. guest_view c.args.table.now.table_id (first_guest c.args.opening.now n))
          0 c.loop-number.number c.loop-number.number (omega arith));
    }
