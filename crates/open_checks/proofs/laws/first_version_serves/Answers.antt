use Rattle.open_checks.proofs.Fitting.{fits_after_first}
use Rattle.open_checks.proofs.laws.first_version_serves.Goals as goal

pub returns : goal.returns
returns c = fits_after_first
