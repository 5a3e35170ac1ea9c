use Rattle.std.proofs.Common.{get_or, sym, ◌∙◌, arith}
use Rattle.std.proofs.lemmas.List.{length-set}
use Rattle.std.specs.Mem.Slots.{slots_items}
use Rattle.dirty_words.proofs.Lists.{at_value, set_more}
use Rattle.dirty_words.proofs.closing.copy_dirty.Goals as goal

pub loop-word-preserved : goal.loop-word-preserved
loop-word-preserved c = record {
  same = length-set c.loop-word.dirty.items c.loop-word.word c.word.result ∙ c.loop-word.invariant.same;
  copied = set_more (λ k. get_or (slots_items c.args.closed.now.words) k 0) c.loop-word.dirty.items c.loop-word.word
      c.word.result (let same = c.loop-word.invariant.same in omega arith)
      (sym (at_value (slots_items c.args.closed.now.words) c.loop-word.word c.word.result c.word.ensures))
      c.loop-word.invariant.copied;
}
