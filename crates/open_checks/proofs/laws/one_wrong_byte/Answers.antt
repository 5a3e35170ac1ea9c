use Rattle.open_checks.proofs.WrongBytes.{one_byte, none_wrong}
use Rattle.open_checks.proofs.laws.one_wrong_byte.Goals as goal

pub returns-clause-found : goal.returns-clause-found
returns-clause-found c = one_byte

pub returns-clause-none : goal.returns-clause-none
returns-clause-none c = none_wrong
