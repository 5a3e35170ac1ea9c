use Rattle.std.proofs.Common.{ap, ◌∙◌}
use Rattle.migration_model.specs.Memory.{put}
use Rattle.trace_writer.proofs.Puts.{put_write_is}
use Rattle.trace_writer.proofs.parts.put_write.Goals as goal

pub returns : goal.returns
returns c =
    put_write_is c.args.trace.now c.put_part.new.trace c.put_part-2.new.trace c.args.start c.args.tick c.args.page
    c.args.offset c.args.bytes.now c.requires.room
    (c.put_part.ensures ∙ ap (put c.args.trace.now c.args.start) c.head_of.ensures) c.put_part-2.ensures
