use Rattle.migration_model.proofs.Pages.{memory_before}
use Rattle.migration_model.proofs.versions_make_memory.Goals as goal

pub returns : goal.returns
returns c = memory_before
