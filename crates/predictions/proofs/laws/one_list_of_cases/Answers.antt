use Rattle.predictions.proofs.PlannedCases.{one_list_of_cases_lem}
use Rattle.predictions.proofs.laws.one_list_of_cases.Goals as goal

pub returns : goal.returns
returns c = one_list_of_cases_lem
