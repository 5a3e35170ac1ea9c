use Rattle.std.proofs.Common.{rules, ◌≡◌, ◌*◌, ◌∙◌, arith, length, replicate}
use Rattle.page_bitmap.specs.Pages.{in_words}
use Rattle.page_bitmap.proofs.Listed.{few_pages}
use Rattle.round_planner.proofs.Scans.{begun_again, marked_pages}
use Rattle.round_planner.proofs.marked.turn.Goals as goal

pub overflow_cast-result : goal.overflow_cast-result
overflow_cast-result c =
    let marks = c.args.marks.now in
    let few = few_pages (in_words marks) 0 (length marks * 64) in
    omega (arith, few, c.list_pages-count.ensures.count, c.requires.marks)

pub returns-clause-turned : goal.returns-clause-turned
returns-clause-turned c pages from tick next touches scan =
    let marks = c.args.marks.now in
    let filled : c.fill.new.self ≡ replicate (length marks) 0 = search rules in
    record {
      list = c.list_pages-count.ensures.listed ∙ marked_pages pages touches from tick next marks scan;
      scan = begun_again pages touches from tick next marks c.fill.new.self filled scan;
    }
