use Rattle.predictions.proofs.SpreadStarts.{refused_for_memory}
use Rattle.predictions.proofs.starts.spread.spread_cases.Goals as goal

pub returns-clause-refused : goal.returns-clause-refused
returns-clause-refused c =
    refused_for_memory c.cases.result c.args.settings.now c.spread.result c.args.last_tick c.spread.ensures.starts
    c.spread.ensures.in_range c.requires.low c.cases.ensures.refused
