use Rattle.std.proofs.Common.{◌+◌, ◌∙◌, ◌++◌, List, ℕ, length, sym, ap, arith, get_or}
use Rattle.std.proofs.lemmas.List.{length-append}
use Rattle.page_bitmap.specs.Listing.{pages_of_word}
use Rattle.page_bitmap.proofs.Listed.{listed, listed_more, listed_few}
use Rattle.page_bitmap.proofs.listing.list_pages.Goals as goal

pub list_word-count-requires-clause-long : goal.list_word-count-requires-clause-long
list_word-count-requires-clause-long c =
    let before = c.loop-word.invariant in
    let marks = c.args.words.now in
    let word = c.loop-word.word in
    let more = ap (λ (l : List ℕ). length l) (listed_more marks word) in
    let parts = length-append (listed marks word) (pages_of_word word (get_or marks word 0)) in
    let few = listed_few marks (word + 1) (length marks) (omega (arith, c.loop-word-test.true)) in
    omega (arith, before.count, before.len, more, parts, few, c.requires.long)

pub loop-word-preserved : goal.loop-word-preserved
loop-word-preserved c =
    let before = c.loop-word.invariant in
    let marks = c.args.words.now in
    let word = c.loop-word.word in
    let wrote = c.list_word-count.ensures in
    let more = ap (λ (l : List ℕ). length l) (listed_more marks word) in
    let parts = length-append (listed marks word) (pages_of_word word (get_or marks word 0)) in
    record {
      list = wrote.listed ∙ ap (λ (l : List ℕ). l ++ pages_of_word word (get_or marks word 0)) before.list
          ∙ sym (listed_more marks word);
      count = omega (arith, wrote.slot, before.count, more, parts);
      len = wrote.len ∙ before.len;
    }
