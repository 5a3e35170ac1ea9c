use Rattle.page_bitmap.proofs.Bits.{added}
use Rattle.page_bitmap.proofs.words.add_bits.Goals as goal

pub returns-clause-pages : goal.returns-clause-pages
returns-clause-pages c page = added c.args.words.now c.args.word c.args.bits page c.requires
