use Rattle.std.proofs.Common.{◌<◌, ◌∙◌, arith}
use Rattle.std.proofs.lemmas.List.{length-set}
use Rattle.page_bitmap.proofs.Listed.{written_more, one_fewer, all_written, none_left}
use Rattle.page_bitmap.proofs.listing.list_word.Goals as goal

pub bounds-buffer-next : goal.bounds-buffer-next
bounds-buffer-next c =
    let before = c.loop-left.invariant in
    let fewer = one_fewer c.args.word c.loop-left.left (omega (arith, c.loop-left-test.true))
    (omega (arith, c.loop-left.auto.left-fits)) in
    omega (arith, before.slot, before.len, fewer, c.requires.long)

pub loop-left-smaller : goal.loop-left-smaller
loop-left-smaller c = omega (
  arith,
  one_fewer c.args.word c.loop-left.left (omega (arith, c.loop-left-test.true))
      (omega (arith, c.loop-left.auto.left-fits)),
)

pub loop-left-preserved : goal.loop-left-preserved
loop-left-preserved c =
    let before = c.loop-left.invariant in
    let some : 0 < c.loop-left.left = omega (arith, c.loop-left-test.true) in
    record {
      listed = written_more c.args.word c.loop-left.left c.loop-left.next c.loop-left.buffer _ some
          (omega (arith, c.loop-left.auto.left-fits)) (bounds-buffer-next c) before.listed;
      slot = omega (
        arith,
        before.slot,
        one_fewer c.args.word c.loop-left.left some
            (omega (arith, c.loop-left.auto.left-fits)),
      );
      len = length-set _ _ _ ∙ before.len;
    }

pub returns-clause-listed : goal.returns-clause-listed
returns-clause-listed c = all_written c.args.word c.loop-left.left _ _ (omega (arith, c.loop-left-test.false))
    c.loop-left.invariant.listed

pub returns-clause-slot : goal.returns-clause-slot
returns-clause-slot c = omega (
  arith,
  c.loop-left.invariant.slot,
  none_left c.args.word c.loop-left.left (omega (arith, c.loop-left-test.false)),
)
