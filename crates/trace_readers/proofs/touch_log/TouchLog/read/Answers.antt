use Rattle.trace_readers.proofs.Visits.{only_outside}
use Rattle.trace_readers.proofs.touch_log.TouchLog.read.Goals as goal

pub returns-clause-only : goal.returns-clause-only
returns-clause-only g c bytes trace is spells =
    only_outside c.log_of_source.result _ bytes trace c.log_of_source.ensures.found c.log_of_source.ensures.refused is
    spells
