use Rattle.view_commands.proofs.NearestLemmas.{nearest_rate}
use Rattle.view_commands.proofs.nearest.nearest_link.Goals as goal

pub nearest_within-requires-clause-ordered : goal.nearest_within-requires-clause-ordered
nearest_within-requires-clause-ordered c =
    (c.most_bytes.ensures c.least_bytes.result).1 c.least_bytes.ensures.taken

pub returns : goal.returns
returns c = nearest_rate c.args.scale.now 1_000_000 c.least_bytes.result c.most_bytes.result c.args.asked
    c.nearest_within.result c.least_bytes.ensures.least c.most_bytes.ensures
    ((c.most_bytes.ensures c.least_bytes.result).1 c.least_bytes.ensures.taken) c.nearest_within.ensures
