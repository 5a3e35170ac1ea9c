use Rattle.std.proofs.Common.{◌<◌, ◌^◌, get_or, arith}
use Rattle.dirty_words.proofs.Words.{no_pages}
use Rattle.dirty_words.proofs.copier.has_bits.Goals as goal

pub returns-then-bits-ne0 : goal.returns-then-bits-ne0
returns-then-bits-ne0 c =
    let fits : get_or c.args.words.now c.loop-bits.bits-index 0 < 2 ^ 64 =
    let known = c.type_inv.words c.loop-bits.bits-index in omega arith in
    (λ off. absurd cc, λ none. absurd (c.if-bits-ne0.true (no_pages c.args.words.now c.loop-bits.bits-index fits none)))
