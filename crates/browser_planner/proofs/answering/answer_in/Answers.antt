use Rattle.browser_planner.proofs.Foretold.{answered}
use Rattle.browser_planner.proofs.answering.answer_in.Goals as goal

pub returns : goal.returns
returns c =
    answered c.args.trace.now c.args.terms.now c.of-log.result _ c.new.result c.args.rounds.now
    c.foretold_over-foretold.new.rounds c.of-log.ensures c.foretold_over-foretold.ensures.foretold
    c.foretold_over-foretold.ensures.rows c.new.ensures
