use Rattle.std.proofs.Common.{◌*◌, arith, length}
use Rattle.page_bitmap.specs.Pages.{in_words}
use Rattle.page_bitmap.proofs.Listed.{few_pages}
use Rattle.page_bitmap.proofs.listing.pages_in.Goals as goal

pub list_pages-count-requires-clause-long : goal.list_pages-count-requires-clause-long
list_pages-count-requires-clause-long c =
    let words = c.args.words.now in
    let few = few_pages (in_words words) 0 (length words * 64) in
    omega (arith, few, c.deref_mut.ensures.len, c.in_ok-pages.ensures.len)
