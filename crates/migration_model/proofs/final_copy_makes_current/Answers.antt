use Rattle.migration_model.proofs.Final.{final_current}
use Rattle.migration_model.proofs.final_copy_makes_current.Goals as goal

pub returns : goal.returns
returns c = final_current
