use Rattle.std.proofs.Common.{ap, ◌∙◌}
use Rattle.std.specs.Prelude.{◌&&◌, not}
use Rattle.page_bitmap.specs.Pages.{in_words}
use Rattle.page_bitmap.proofs.Bits.{one_bit}
use Rattle.page_bitmap.proofs.words.remove_page.Goals as goal

pub returns-clause-pages : goal.returns-clause-pages
returns-clause-pages c page =
    c.remove_bits.ensures.pages page ∙ ap (λ b. in_words c.args.words.now page && not b) (one_bit c.args.page page)
