use Rattle.browser_planner.proofs.OneRefusal.{one_windows}
use Rattle.browser_planner.proofs.laws.one_refusal_of_windows.Goals as goal

pub returns : goal.returns
returns c = one_windows
