use Rattle.std.proofs.Common.{rules, ◌≡◌, ◌∙◌, ap, replicate}
use Rattle.working_sets.specs.Counting.{unseen}
use Rattle.working_sets.proofs.Carried.{joined_first}
use Rattle.working_sets.proofs.joining.nothing_joined.Goals as goal

pub returns : goal.returns
returns g c =
    let marks_are : c.in_ok-from_elem.field-0.items ≡ replicate c.page_count.result unseen = search rules in
    joined_first _ (g.T.Timeline.pages c.args.timeline.now) _ (g.T.Timeline.touches c.args.timeline.now) _
    c.new.ensures.items c.blank_row.ensures (marks_are ∙ ap (λ n. replicate n unseen) c.page_count.ensures.pages)
