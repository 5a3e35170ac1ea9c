use Rattle.std.proofs.Common.{◌≡◌, ◌∙◌, ap, arith, nat_lt}
use Rattle.look_planner.proofs.Marks.{all_marked}
use Rattle.look_planner.proofs.bitmap.mark_all.Goals as goal

pub returns-clause-pages : goal.returns-clause-pages
returns-clause-pages c =
    let before = c.loop-page.invariant in
    let end : c.loop-page.page ≡ c.args.pages = omega (arith, before.high, c.loop-page-test.false) in
    all_marked c.args.pages c.loop-page.marks before.words (λ page. before.pages page ∙ ap (nat_lt page) end)
