use Rattle.std.proofs.Common.{◌≡◌}
use Rattle.view_commands.proofs.NearestLemmas.{most_iff}
use Rattle.view_commands.proofs.nearest.most_bytes.Goals as goal

pub returns : goal.returns
returns c = rw (c.parts-byte.ensures.byte, c.parts-byte.ensures.page) (λ n. most_iff c.args.scale.now c.args.rate n
    c.parts-byte.ensures.in_range)
