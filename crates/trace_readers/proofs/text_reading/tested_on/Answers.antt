use Rattle.std.proofs.Common.{arith}
use Rattle.trace_readers.proofs.Fronts.{tested_longer}
use Rattle.trace_readers.proofs.text_reading.tested_on.Goals as goal

pub go_on-requires : goal.go_on-requires
go_on-requires c =
    tested_longer c.args.bytes.now c.in_ok-front.front c.in_ok-front.ensures (λ i. omega (arith, c.type_inv.bytes i))
    (omega (arith, c.if-bytes-gt-MAX_LENGTH.false))
