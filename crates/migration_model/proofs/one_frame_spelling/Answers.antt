use Rattle.migration_model.proofs.Frames.{frame_for, one_frame_spelling_lem}
use Rattle.migration_model.proofs.one_frame_spelling.Goals as goal

pub returns-clause-some : goal.returns-clause-some
returns-clause-some c = frame_for

pub returns-clause-one : goal.returns-clause-one
returns-clause-one c = one_frame_spelling_lem
