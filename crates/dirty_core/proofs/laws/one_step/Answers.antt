use Rattle.dirty_core.proofs.OneStep.{one_answer_lem, one_core_lem, one_refusal_lem}
use Rattle.dirty_core.proofs.laws.one_step.Goals as goal

pub returns-clause-answer : goal.returns-clause-answer
returns-clause-answer c = one_answer_lem

pub returns-clause-core : goal.returns-clause-core
returns-clause-core c = one_core_lem

pub returns-clause-refusal : goal.returns-clause-refusal
returns-clause-refusal c = one_refusal_lem
