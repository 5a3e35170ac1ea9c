use Rattle.std.proofs.Common.{◌≡◌, ◌++◌, map}
use Rattle.std.specs.List.{All}
use Rattle.std.specs.Vec.Iter.{into_iter_items}
use Rattle.page_message.specs.Shapes.{shape_of}
use Rattle.live_engine.specs.Receiving.{lanes_in}
use Rattle.live_engine.proofs.opening.new_receivers.Given as goal

abbrev pub invariant-loop-column : goal.invariant-loop-column
invariant-loop-column l = record {
  can_next : goal.iterator-loop-column.can_next l.column-iterator;
  is_finite : goal.iterator-loop-column.is_finite l.column-iterator;
  all : l.yielded ++ into_iter_items l.column-iterator ≡ l.fn.columns.items;
  lanes : map lanes_in l.receivers.items ≡ map (λ column. map (λ end. end.lane) column.items) l.yielded;
  shapes : All (λ receiver. receiver.part.shape ≡ shape_of l.shape) l.receivers.items;
}
