use Rattle.std.proofs.Common.{◌≡◌, ◌++◌, sym, ap, ◌∙◌}
use Rattle.std.specs.Vec.Iter.{into_iter_items}
use Rattle.dirty_words.specs.Seats.{CopyView}
use Rattle.dirty_words.proofs.Openings.{joins}
use Rattle.dirty_words.proofs.Lists.{all_middle}
use Rattle.dirty_words.proofs.closing.join_copiers.Goals as goal

pub join_seat-requires : goal.join_seat-requires
join_seat-requires c =
    let here : c.in-Some.copier.id ≡ c.args.table.now.table_id =
    all_middle (λ (g : CopyView). g.id ≡ c.args.table.now.table_id) c.loop-copier.yielded c.in-Some.copier
    (into_iter_items c.next.new.self)
    c.args.copiers.items c.requires.copiers (ap (λ xs. c.loop-copier.yielded ++ xs) (sym (c.in-Some.ensures.steps.0))
    ∙ c.loop-copier.invariant.all) in (
      c.loop-copier.invariant.one_table ∙ c.requires.table.0,
      c.into_seat.ensures.table ∙ here,
      ap (λ m. m.1) c.into_seat.ensures.alone,
      c.requires.table.1,
      joins c.args.table.now.key c.loop-copier.seat.id c.loop-copier.seat.me.0 c.into_seat.result.id
          c.into_seat.result.me.0,
    )
