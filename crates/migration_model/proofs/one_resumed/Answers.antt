use Rattle.migration_model.proofs.Pages.{one_resumed_lem}
use Rattle.migration_model.proofs.one_resumed.Goals as goal

pub returns : goal.returns
returns c = one_resumed_lem
