use Rattle.trace_views.proofs.OneAdvice.{one_advice}
use Rattle.trace_views.proofs.laws.one_advice.Goals as goal

pub returns : goal.returns
returns c = one_advice
