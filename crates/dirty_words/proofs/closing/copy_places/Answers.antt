use Rattle.std.proofs.Common.{◌<◌, ◌+◌, ◌^◌, length, get_or, sym, ◌∙◌, arith}
use Rattle.std.specs.Prelude.{slice_index}
use Rattle.std.proofs.lemmas.List.{length-set}
use Rattle.std.specs.Mem.Slots.{slots_items}
use Rattle.dirty_words.proofs.Lists.{at_value, set_more}
use Rattle.dirty_words.proofs.closing.copy_places.Goals as goal

pub overflow_cast-word : goal.overflow_cast-word
overflow_cast-word c =
    let page = c.loop-page.page in
    let low : page < length c.args.places.items = let same = c.loop-page.invariant.same in omega arith in
    let small : slice_index (slots_items c.args.closed.now.words) (c.args.first + page) < 2 ^ 32 =
    c.requires.small page low in
    let is = at_value (slots_items c.args.closed.now.words) (c.args.first + c.loop-page.page) c.word.result
    c.word.ensures in
    omega (arith, small, is)

pub loop-page-preserved : goal.loop-page-preserved
loop-page-preserved c = record {
  same = length-set c.loop-page.places.items c.loop-page.page c.word.result ∙ c.loop-page.invariant.same;
  copied = set_more (λ k. get_or (slots_items c.args.closed.now.words) (c.args.first + k) 0) c.loop-page.places.items
      c.loop-page.page c.word.result
      (let same = c.loop-page.invariant.same in omega arith)
      (sym (at_value (slots_items c.args.closed.now.words) (c.args.first + c.loop-page.page) c.word.result
      c.word.ensures)) c.loop-page.invariant.copied;
}
