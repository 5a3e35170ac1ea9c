use Rattle.open_checks.proofs.BaseWords.{current_memory}
use Rattle.open_checks.proofs.laws.current_pages_are_the_memory.Goals as goal

pub returns : goal.returns
returns c = current_memory
