use Rattle.std.proofs.Common.{◌≡◌, ◌*◌, ◌^◌, drop}
use Rattle.collector.specs.Tables.{IsTableOf}
use Rattle.page_message.specs.Shapes.{shape_of}
use Rattle.collector.proofs.of_image.table_of.Given as goal

abbrev pub invariant-loop-page : goal.invariant-loop-page
invariant-loop-page l = record {
  made : IsTableOf (shape_of l.shape) l.bytes l.stamps l.page l.table.items;
  left : l.rest ≡ drop (l.page * 2 ^ l.shape.shift) l.bytes;
}
