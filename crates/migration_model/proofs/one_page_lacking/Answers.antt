use Rattle.migration_model.proofs.Current.{one_lacking_lem}
use Rattle.migration_model.proofs.one_page_lacking.Goals as goal

pub returns : goal.returns
returns c = one_lacking_lem
