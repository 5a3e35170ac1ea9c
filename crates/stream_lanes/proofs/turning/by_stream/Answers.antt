use Rattle.std.proofs.Common.{Vec, Global, ◌≡◌, ◌∷◌, ◌++◌, [], length, append_assoc, ap, sym, ◌∙◌}
use Rattle.std.specs.Vec.Iter.{into_iter_items}
use Rattle.stream_lanes.specs.Ends.{OutView}
use Rattle.stream_lanes.proofs.Turned.{columns-none, columns-more, next_holds}
use Rattle.stream_lanes.proofs.turning.by_stream.Goals as goal

pub loop-row-init : goal.loop-row-init
loop-row-init c = record {
  all = c.into_iter-row-iterator.ensures.into_iter_gives.0;
  columns = columns-none c.args.streams c.in_ok-columns.columns.items c.in_ok-columns.ensures;
}

pub loop-row-preserved : goal.loop-row-preserved
loop-row-preserved c =
    let before = c.loop-row.invariant in
    let row = c.in-Some.row in
    let rest = into_iter_items c.next.new.self in
    let steps = c.in-Some.ensures.steps.0 in
    let size : length row.items ≡ c.args.streams =
    next_holds (λ (r : Vec OutView Global). length r.items ≡ c.args.streams) c.loop-row.yielded
    (into_iter_items c.loop-row.row-iterator) rest c.args.rows.items row steps before.all c.requires in
    record {
      all = append_assoc c.loop-row.yielded (row ∷ []) rest ∙ ap (λ xs. c.loop-row.yielded ++ xs) (sym steps)
          ∙ before.all;
      columns = columns-more c.args.streams c.loop-row.yielded row c.loop-row.columns.items c.add_row.new.columns.items
          before.columns
          (size ∙ sym before.columns.count) c.in_ok-add_row.ensures;
    }
