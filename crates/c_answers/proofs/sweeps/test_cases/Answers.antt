use Rattle.std.proofs.Common.{arith, refl, subst}
use Rattle.std.specs.List.{All}
use Rattle.std.proofs.lemmas.List.{take_all}
use Rattle.c_answers.specs.Settings.{AreGiven}
use Rattle.c_answers.proofs.Given.{RefusesCase-at, given_more}
use Rattle.c_answers.proofs.sweeps.test_cases.Goals as goal

pub returns-in-Err-clause-refused : goal.returns-in-Err-clause-refused
returns-in-Err-clause-refused c =
    RefusesCase-at c.args.cases.now c.loop-case.case-index _ c.in-Err.refusal (omega arith) c.loop-case.invariant
    c.in-Err.ensures.refused

pub returns-in-Err-clause-only : goal.returns-in-Err-clause-only
returns-in-Err-clause-only c all =
    absurd (cc (c.in-Err.ensures.given.1 (all c.loop-case.case-index _ (omega arith))))

pub loop-case-preserved : goal.loop-case-preserved
loop-case-preserved c =
    given_more c.args.cases.now c.loop-case.case-index _ (omega arith) c.loop-case.invariant
    (c.in_default.ensures.given.0 refl)

pub returns-clause-given : goal.returns-clause-given
returns-clause-given c =
    subst (All AreGiven) (take_all c.loop-case.case-index c.args.cases.now (omega arith)) c.loop-case.invariant
