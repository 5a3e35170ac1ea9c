use Rattle.std.proofs.Common.{◌∙◌}
use Rattle.move_schedules.proofs.faults.table_fault.Goals as goal

pub returns-clause-told : goal.returns-clause-told
returns-clause-told g c =
    rw (c.as_str.ensures.value ∙ c.cause_of-cause.ensures) at c.known_fault.ensures.told
