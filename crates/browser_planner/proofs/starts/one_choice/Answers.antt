use Rattle.browser_planner.proofs.Choices.{one_choice_lem}
use Rattle.browser_planner.proofs.starts.one_choice.Goals as goal

pub returns : goal.returns
returns c = one_choice_lem
