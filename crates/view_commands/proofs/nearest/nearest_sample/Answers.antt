use Rattle.std.proofs.Common.{arith}
use Rattle.view_commands.specs.Nearest.{IsWithin}
use Rattle.view_commands.proofs.NearestLemmas.{nearest_between}
use Rattle.view_commands.proofs.nearest.nearest_sample.Goals as goal

pub returns : goal.returns
returns c = record {
  guest = nearest_between (IsWithin 1 4_294_967_296) 1 4_294_967_296 c.args.asked.1 c.clamp-guest.result (omega arith)
      (λ k. (λ within. within, λ within. within)) c.clamp-guest.ensures;
  sampled = nearest_between (IsWithin 1 c.clamp-guest.result) 1 c.clamp-guest.result c.args.asked.0 c.clamp.result
      (omega (arith, c.clamp-guest.ensures)) (λ k. (λ within. within, λ within. within)) c.clamp.ensures;
}
