use Rattle.browser_planner.proofs.Foretold.{comes_to, predicted_is, rounds_over}
use Rattle.browser_planner.proofs.foretelling.by_rounds.Goals as goal

pub returns-clause-foretold : goal.returns-clause-foretold
returns-clause-foretold c =
    let pages = c.args.log.now.pages in
    let touches = c.args.log.now.touches in
    let planned = c.plan_rows-outcome.ensures in
    record {
      comes_to = comes_to pages touches c.args.terms.now _ _ c.args.rounds.now c.plan_rows-outcome.new.rows planned
          c.of_outcome.ensures;
      predicts = predicted_is pages touches c.args.terms.now _ c.last_dirtied-left.result _ c.args.rounds.now
          c.plan_rows-outcome.new.rows planned c.last_dirtied-left.ensures c.outlook_of.ensures;
    }

pub returns-clause-rows : goal.returns-clause-rows
returns-clause-rows c =
    rounds_over c.args.log.now.pages c.args.log.now.touches c.args.terms.now _ c.args.rounds.now
    c.plan_rows-outcome.new.rows c.plan_rows-outcome.ensures
