use Rattle.std.proofs.Common.{sym, ◌∙◌}
use Rattle.migration_model.proofs.Frames.{one_frame_lem, one_stream_lem}
use Rattle.migration_model.proofs.one_frame.Goals as goal

pub returns-clause-frame : goal.returns-clause-frame
returns-clause-frame c = one_frame_lem

pub returns-clause-stream : goal.returns-clause-stream
returns-clause-stream c shape bytes fs gs is spells_f spells_g =
    one_stream_lem shape fs gs is spells_f.are_frames spells_g.are_frames (sym spells_f.text ∙ spells_g.text)
