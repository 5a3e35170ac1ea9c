use Rattle.std.proofs.Common.{◌≡◌, ◌++◌, sym, ap, ◌∙◌}
use Rattle.std.specs.Vec.Iter.{into_iter_items}
use Rattle.dirty_words.specs.Seats.{GuestView}
use Rattle.dirty_words.proofs.Openings.{joins}
use Rattle.dirty_words.proofs.Lists.{all_middle}
use Rattle.dirty_words.proofs.closing.join_guests.Goals as goal

pub join_seat-requires : goal.join_seat-requires
join_seat-requires c =
    let here : c.in-Some.guest.id ≡ c.args.table.now.table_id =
    all_middle (λ (g : GuestView). g.id ≡ c.args.table.now.table_id) c.loop-guest.yielded c.in-Some.guest
    (into_iter_items c.next.new.self)
    c.args.guests.items c.requires.guests (ap (λ xs. c.loop-guest.yielded ++ xs) (sym (c.in-Some.ensures.steps.0))
    ∙ c.loop-guest.invariant.all) in (
      c.loop-guest.invariant.one_table ∙ c.requires.table.0,
      c.into_seat.ensures.table ∙ here,
      ap (λ m. m.1) c.into_seat.ensures.alone,
      c.requires.table.1,
      joins c.args.table.now.key c.loop-guest.seat.id c.loop-guest.seat.me.0 c.into_seat.result.id
          c.into_seat.result.me.0,
    )
