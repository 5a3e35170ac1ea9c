use Rattle.migration_model.proofs.Touches.{one_count_lem}
use Rattle.migration_model.proofs.one_count_before.Goals as goal

pub returns : goal.returns
returns c = one_count_lem
