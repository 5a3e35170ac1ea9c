use Rattle.trace_writer.proofs.OneRefusal.{not_refused, same_refusal}
use Rattle.trace_writer.proofs.laws.one_refusal.Goals as goal

pub returns-clause-one : goal.returns-clause-one
returns-clause-one c = same_refusal

pub returns-clause-none : goal.returns-clause-none
returns-clause-none c = not_refused
