use Rattle.std.proofs.Common.{arith}
use Rattle.std.proofs.Math.Nat.{one-le-pow}
use Rattle.view_commands.proofs.decimals.Decimal.times.Goals as goal

pub nonzero_div-rounded : goal.nonzero_div-rounded
nonzero_div-rounded c = omega (arith, c.pow.ensures, one-le-pow c.args.self.now.places 10 (omega arith))
