use Rattle.std.proofs.Common.{arith}
use Rattle.page_bitmap.proofs.Bits.{removed}
use Rattle.page_bitmap.proofs.words.remove_bits.Goals as goal

pub returns-clause-pages : goal.returns-clause-pages
returns-clause-pages c page = removed c.args.words.now c.args.word c.args.bits page c.requires (omega arith)
