use Rattle.std.proofs.Common.{arith}
use Rattle.page_bitmap.proofs.Bits.{within}
use Rattle.page_bitmap.proofs.words.has_bits.Goals as goal

pub returns : goal.returns
returns c = within c.args.words.now c.args.word c.args.bits (omega arith)
