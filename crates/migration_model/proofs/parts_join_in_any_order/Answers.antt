use Rattle.migration_model.proofs.Parts.{join-join, join-exchanged, join-itself}
use Rattle.migration_model.proofs.parts_join_in_any_order.Goals as goal

pub returns-clause-associative : goal.returns-clause-associative
returns-clause-associative c = join-join

pub returns-clause-commutative : goal.returns-clause-commutative
returns-clause-commutative c = join-exchanged

pub returns-clause-idempotent : goal.returns-clause-idempotent
returns-clause-idempotent c = join-itself
