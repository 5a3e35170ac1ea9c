use Rattle.migration_model.proofs.Frames.{one_frame_of_page_lem}
use Rattle.migration_model.proofs.one_frame_of_page.Goals as goal

pub returns : goal.returns
returns c = one_frame_of_page_lem
