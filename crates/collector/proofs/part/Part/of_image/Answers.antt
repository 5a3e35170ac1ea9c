use Rattle.std.proofs.Common.{◌∙◌}
use Rattle.page_message.specs.Shapes.{shape_of}
use Rattle.collector.proofs.Imaged.{is_table, part_of_table}
use Rattle.collector.proofs.part.Part.of_image.Goals as goal

pub with_table-requires : goal.with_table-requires
with_table-requires c =
    is_table (shape_of c.args.shape) c.args.bytes.now c.args.stamps.now c.in_ok-frames.frames.items
    c.in_ok-frames.ensures

pub returns : goal.returns
returns c =
    c.with_table.ensures ∙ part_of_table (shape_of c.args.shape) c.args.bytes.now c.args.stamps.now
    c.in_ok-frames.frames.items c.in_ok-frames.ensures
