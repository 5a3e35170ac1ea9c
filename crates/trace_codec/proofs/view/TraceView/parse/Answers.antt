use Rattle.trace_codec.proofs.Never.{is_first, is_only}
use Rattle.trace_codec.proofs.view.TraceView.parse.Goals as goal

pub returns-clause-only : goal.returns-clause-only
returns-clause-only c = is_only _ _ c.whole.ensures.found c.whole.ensures.refused

pub returns-clause-first : goal.returns-clause-first
returns-clause-first c = is_first _ _ c.whole.ensures.found c.whole.ensures.refused
