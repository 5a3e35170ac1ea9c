use Rattle.open_checks.proofs.BaseWords.{image_kept, unwritten_current}
use Rattle.open_checks.proofs.laws.memory_after_is_kept.Goals as goal

pub returns-clause-kept : goal.returns-clause-kept
returns-clause-kept c = image_kept

pub returns-clause-current : goal.returns-clause-current
returns-clause-current c = unwritten_current
