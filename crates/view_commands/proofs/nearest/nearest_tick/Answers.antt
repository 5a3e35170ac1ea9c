use Rattle.std.proofs.Common.{arith}
use Rattle.view_commands.specs.Nearest.{IsWithin}
use Rattle.view_commands.proofs.NearestLemmas.{nearest_between}
use Rattle.view_commands.proofs.nearest.nearest_tick.Goals as goal

pub returns : goal.returns
returns c = nearest_between (IsWithin 1 1_000_000) 1 1_000_000 c.args.asked c.clamp.result (omega arith)
    (λ k. (λ within. within, λ within. within)) c.clamp.ensures
