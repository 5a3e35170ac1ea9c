use Rattle.std.proofs.Common.{◌*◌, ◌^◌, ◌≤◌, arith}
use Rattle.std.proofs.Math.Nat.{mul-le-mul_right}
use Rattle.std.proofs.Math.Pow.{pow_mono}
use Rattle.byte_sinks.proofs.pieced_memory.memory_size.Goals as goal

pub returns-clause-bound : goal.returns-clause-bound
returns-clause-bound c =
    let shape = c.args.shape in
    let page : 2 ^ shape.shift ≤ 2 ^ 12 = pow_mono shape.shift_high in
    let all : shape.pages * 2 ^ shape.shift ≤ 65536 * 2 ^ shape.shift = mul-le-mul_right (2 ^ shape.shift)
    shape.pages_high in
    omega (arith, page, all)
