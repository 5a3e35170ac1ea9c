use Rattle.migration_model.proofs.Frames.{none_begins_another_lem}
use Rattle.migration_model.proofs.no_frame_begins_another.Goals as goal

pub returns : goal.returns
returns c = none_begins_another_lem
