use Rattle.std.proofs.Common.{ap, arith}
use Rattle.predictions.specs.Starts.{count_of}
use Rattle.predictions.specs.declared.starts.cases.Starts.{Starts}
use Rattle.predictions.proofs.SpreadStarts.{spread_few}
use Rattle.predictions.proofs.starts.spread.spread_count.Goals as goal

pub returns-clause-count : goal.returns-clause-count
returns-clause-count c =
    let few = spread_few c.args.settings.now c.spread.result c.args.last_tick c.spread.ensures.starts in
    let same = ap (λ (s : Starts). count_of s c.args.last_tick) c.spread.ensures.starts in
    omega (arith, few, same, c.count.ensures)

pub returns-clause-few : goal.returns-clause-few
returns-clause-few c =
    let few = spread_few c.args.settings.now c.spread.result c.args.last_tick c.spread.ensures.starts in
    omega (arith, few, c.count.ensures)
