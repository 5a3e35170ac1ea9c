use Rattle.std.proofs.Common.{arith, length, ◌-◌}
use Rattle.page_bitmap.proofs.Bits.{ends}
use Rattle.page_bitmap.proofs.words.ends_before.Goals as goal

pub returns-else-used-eq0 : goal.returns-else-used-eq0
returns-else-used-eq0 c = ends c.args.words.now c.args.pages c.requires.some c.requires.words c.if-used-eq0.false
    (omega (arith, c.type_inv.words (length c.args.words.now - 1)))
