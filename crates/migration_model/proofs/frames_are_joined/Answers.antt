use Rattle.migration_model.proofs.Parts.{with_frame_joins_lem}
use Rattle.migration_model.proofs.frames_are_joined.Goals as goal

pub returns : goal.returns
returns c part frame is fits = with_frame_joins_lem part frame is.places fits.page
