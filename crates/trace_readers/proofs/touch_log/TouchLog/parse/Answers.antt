use Rattle.trace_codec.proofs.Never.{only_memory}
use Rattle.trace_readers.proofs.touch_log.TouchLog.parse.Goals as goal

pub returns-clause-only : goal.returns-clause-only
returns-clause-only c = only_memory _ _ c.log_of_bytes.ensures.refused
