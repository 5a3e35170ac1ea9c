use Rattle.std.proofs.Common.{◌≡◌}
use Rattle.view_commands.proofs.NearestLemmas.{least_iff, least_small, least_taken}
use Rattle.view_commands.proofs.nearest.least_bytes.Goals as goal

pub returns-clause-least : goal.returns-clause-least
returns-clause-least c = rw (c.parts-byte.ensures.byte, c.parts-byte.ensures.page) (λ n. least_iff c.args.scale.now n
    c.parts-byte.ensures.in_range)

pub returns-clause-taken : goal.returns-clause-taken
returns-clause-taken c =
    rw (c.parts-byte.ensures.byte, c.parts-byte.ensures.page)
    (least_taken c.args.scale.now c.parts-byte.ensures.in_range)

pub returns-clause-small : goal.returns-clause-small
returns-clause-small c =
    rw (c.parts-byte.ensures.byte, c.parts-byte.ensures.page)
    (least_small c.args.scale.now c.parts-byte.ensures.in_range)
