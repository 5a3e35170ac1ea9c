use Rattle.open_checks.proofs.Fitting.{one_first, first_not_none}
use Rattle.open_checks.proofs.laws.one_fitting_version.Goals as goal

pub returns-clause-first : goal.returns-clause-first
returns-clause-first c = one_first

pub returns-clause-none : goal.returns-clause-none
returns-clause-none c = first_not_none
