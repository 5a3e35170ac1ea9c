use Rattle.std.proofs.Common.{arith}
use Rattle.trace_views.proofs.JsonNumbers.{IsNumber-decimal_wide}
use Rattle.trace_views.proofs.document.Document.wide_member.Goals as goal

pub number-requires : goal.number-requires
number-requires c = rw c.format.ensures.text (IsNumber-decimal_wide c.args.n (omega arith))
