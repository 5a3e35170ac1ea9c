use Rattle.std.proofs.Common.{rules, ◌≡◌, ◌∙◌, ◌+◌, List, ℕ, ap, subst, sym, arith, length, replicate}
use Rattle.migration_model.specs.Rates.{duration_of}
use Rattle.migration_model.specs.Sweeps.{PlanOutcome, outcome_with}
use Rattle.rate_limit.specs.Pacing.{reason_of}
use Rattle.page_bitmap.proofs.Listed.{few_pages}
use Rattle.round_planner.proofs.ListedWays.{IsWhole, listed_is, lists_end, lists_go_on, lists_start}
use Rattle.round_planner.proofs.planning.listed_rounds.Given.{Over}
use Rattle.round_planner.proofs.planning.listed_rounds.Goals as goal

pub loop-rounds-init : goal.loop-rounds-init
loop-rounds-init g c =
    let filled : c.fill.new.self ≡ replicate (length c.args.marks.now) 0 = search rules in
    lists_start _ _ c.args.settings.now c.args.first c.fill.new.self c.args.room.now c.new-rounds.result.items
    c.requires.first (filled ∙ ap (λ n. replicate n 0) c.requires.marks.marks_len) c.requires.marks.room_len
    c.requires.list c.new-rounds.ensures.items

pub first_pages-requires-in-loop-rounds : goal.first_pages-requires-in-loop-rounds
first_pages-requires-in-loop-rounds g c =
    let before = c.loop-rounds.invariant in
    let pages = before.way.at.can.list in
    let all = few_pages pages.test 0 (g.T.Timeline.pages c.args.timeline.now) in
    let len = ap (λ (l : List ℕ). length l) pages.list_is in
    let sent = c.send_pages-walked.ensures in
    omega (arith, before.way.at.listed_is, all, len, sent.few, sent.room)

pub loop-rounds-preserved : goal.loop-rounds-preserved
loop-rounds-preserved g c =
    let s = c.args.settings.now in
    let now = c.loop-rounds.now in
    let before = c.loop-rounds.invariant in
    let coming = before.coming in
    let walked = c.send_pages-walked.ensures in
    let ran = c.end_round-ran.result in
    let round = c.end_round-ran.ensures in
    let r = round.ran coming before.way.at (walked.sent coming before.marked) in
    let next = rw c.in-Round.is at c.after.ensures in
    let sent = rw (sym c.in_ok-sent.ensures) at walked.list coming before.marked before.list in
    let is = listed_is _ _ s now coming ran c.in_ok-pages.pages.items c.in_ok-sent.sent.items before.way.at r
    (c.in_ok-pages.ensures ∙ sym before.list) sent in
    rw next.1 (lists_go_on _ _ s now ran c.in-Round.next.step c.loop-rounds.marks c.loop-rounds.room
    c.end_round-ran.new.marks c.end_round-ran.new.room c.loop-rounds.rounds.items c.push.new.self.items _
    c.requires.first.in_range before r next.0 round.turned round.room is c.in_ok-push.ensures.items)

-- the plan that ends with this round
whole : (g : Over) → (c : goal.After-end g) → IsWhole (g.T.Timeline.pages c.args.timeline.now)
    (g.T.Timeline.touches c.args.timeline.now) c.args.settings.now c.push.new.self.items (reason_of c.end.inside.reason)
    c.end.inside.stop c.in_ok-last-in-Stop.last.items c.end.inside.down
whole g c =
    let pages = g.T.Timeline.pages c.args.timeline.now in
    let touches = g.T.Timeline.touches c.args.timeline.now in
    let s = c.args.settings.now in
    let now = c.loop-rounds.now in
    let before = c.loop-rounds.invariant in
    let coming = before.coming in
    let walked = c.send_pages-walked.ensures in
    let ran = c.end_round-ran.result in
    let round = c.end_round-ran.ensures in
    let r = round.ran coming before.way.at (walked.sent coming before.marked) in
    let end = rw c.in-Stop.is at c.after.ensures in
    let sent = rw (sym c.in_ok-sent.ensures) at walked.list coming before.marked before.list in
    let is = listed_is _ _ s now coming ran c.in_ok-pages.pages.items c.in_ok-sent.sent.items before.way.at r
    (c.in_ok-pages.ensures ∙ sym before.list) sent in
    let told : outcome_with c.end.inside.rounds (reason_of c.end.inside.reason) c.end.inside.stop c.end.inside.down
    c.end.inside.total ≡ outcome_with (now.step.done + 1) end.0 ran.to (duration_of ran.dirtied s.max)
    ((now.total + ran.sent) + ran.dirtied) = c.end.view_is ∙ end.1.1 in
    subst (λ (o : PlanOutcome). IsWhole pages touches s c.push.new.self.items o.reason o.stop
    c.in_ok-last-in-Stop.last.items o.down) (sym told)
    (lists_end _ _ s now ran end.0 c.loop-rounds.marks c.loop-rounds.room c.end_round-ran.new.marks
    c.end_round-ran.new.room c.loop-rounds.rounds.items c.push.new.self.items _ c.in_ok-last-in-Stop.last.items before r
    end.1.0 round.turned is c.in_ok-push.ensures.items c.in_ok-last-in-Stop.ensures)

pub invariant_of-result : goal.invariant_of-result
invariant_of-result g c = (whole g c).small

pub returns-in-Stop : goal.returns-in-Stop
returns-in-Stop g c = (whole g c).is_plan
