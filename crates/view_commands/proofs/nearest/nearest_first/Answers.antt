use Rattle.std.proofs.Common.{arith}
use Rattle.view_commands.proofs.NearestLemmas.{nearest_rate}
use Rattle.view_commands.proofs.nearest.nearest_first.Goals as goal

pub nearest_within-requires-clause-ordered : goal.nearest_within-requires-clause-ordered
nearest_within-requires-clause-ordered c =
    let low = (c.least_bytes.ensures.least c.args.link).1 c.requires.0 in
    let high = (c.most_bytes-most.ensures c.args.link).1 (omega arith) in
    omega (arith, low, high)

pub returns : goal.returns
returns c =
    let low = (c.least_bytes.ensures.least c.args.link).1 c.requires.0 in
    let high = (c.most_bytes-most.ensures c.args.link).1 (omega arith) in
    rw (← c.rate.ensures) (nearest_rate c.args.scale.now c.rate.result c.least_bytes.result c.most_bytes-most.result
    c.args.asked c.nearest_within.result c.least_bytes.ensures.least c.most_bytes-most.ensures
    (omega (arith, low, high)) c.nearest_within.ensures)
