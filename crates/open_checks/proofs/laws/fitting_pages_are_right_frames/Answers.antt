use Rattle.open_checks.proofs.Fitting.{fitting_right}
use Rattle.open_checks.proofs.laws.fitting_pages_are_right_frames.Goals as goal

pub returns : goal.returns
returns c = fitting_right
