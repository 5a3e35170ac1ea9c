use Rattle.trace_codec.proofs.Never.{only_found}
use Rattle.trace_readers.proofs.held_trace.HeldTrace.parse.Goals as goal

pub returns-clause-only : goal.returns-clause-only
returns-clause-only c = only_found c.args.bytes.items c.of_text.result c.of_text.ensures.found c.of_text.ensures.refused
