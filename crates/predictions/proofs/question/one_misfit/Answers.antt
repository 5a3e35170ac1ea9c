use Rattle.predictions.proofs.Misfits.{one_misfit_lem}
use Rattle.predictions.proofs.question.one_misfit.Goals as goal

pub returns : goal.returns
returns c = one_misfit_lem
