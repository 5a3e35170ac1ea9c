use Rattle.std.proofs.Common.{rules, ◌≡◌, ◌∙◌, ◌≤◌, Some, ap, length, refl, replicate, sym, take, arith}
use Rattle.page_bitmap.specs.Listing.{word_count}
use Rattle.round_planner.proofs.KnownRounds.{listed_anew, marked_ahead_next, marked_here, runs_ahead}
use Rattle.round_planner.proofs.Outcomes.{comes_to, is_outcome}
use Rattle.round_planner.proofs.marked.marked_on.Goals as goal
use Rattle.round_planner.proofs.marked.marked_on.Goals.{then-now-ge1, else-now-ge1}

pub loop-next-init : goal.loop-next-init
loop-next-init g c =
    let pages = g.T.Timeline.pages c.args.timeline.now in
    let touches = g.T.Timeline.touches c.args.timeline.now in
    let s = c.args.settings.now in
    let ahead = c.args.ahead in
    let is = c.requires.ahead in
    let filled : c.fill.new.self ≡ replicate (length c.if-now-ge1.marks) 0 = search rules in
    let marks_len : length c.if-now-ge1.marks ≡ word_count pages =
    elim c.if-now-ge1.branch [
      | then-now-ge1 w ↦ ap length w.marks-is ∙ w.list_lacking.ensures.marks.marks_len
      | else-now-ge1 w ↦ ap length w.marks-is ∙ c.requires.marks.marks_len
    ] in
    let room_len : length c.if-now-ge1.room ≡ pages =
    elim c.if-now-ge1.branch [
      | then-now-ge1 w ↦ ap length w.room-is ∙ w.list_lacking.ensures.marks.room_len
      | else-now-ge1 w ↦ ap length w.room-is ∙ c.requires.marks.room_len
    ] in
    let list : 1 ≤ ahead.numbers.step.done → is.coming.pages ≡ take ahead.numbers.listed c.if-now-ge1.room =
    λ later. elim c.if-now-ge1.branch [
      | then-now-ge1 w ↦
          listed_anew pages touches s ahead w.list_lacking.result w.list_lacking.new.room is
          w.list_lacking.ensures.list w.list_lacking.ensures.count
          ∙ ap (λ room. take ahead.numbers.listed room) (sym w.room-is)
      | else-now-ge1 w ↦ absurd (omega (arith, later, w.if-now-ge1.false))
    ] in
    record {
      marked = marked_here pages touches s ahead c.fill.new.self c.if-now-ge1.room is list room_len
          (filled ∙ ap (λ n. replicate n 0) marks_len);
      known = c.requires.known;
      slots = c.requires.slots;
    }

pub returns-in-Stop-clause-outcome : goal.returns-in-Stop-clause-outcome
returns-in-Stop-clause-outcome g c =
    let s = c.args.settings.now in
    let before = c.loop-next.invariant.marked in
    let is = before.is in
    let ran = c.end_round-ran.ensures.ran is.coming is.way.at (c.send_pages-sent.ensures.sent is.coming before.at) in
    let end = rw c.in-Stop.is at c.after.ensures in
    is_outcome _ _ s _ c.in-Stop.outcome
    (comes_to _ _ s c.loop-next.now is.coming is.rounds c.end_round-ran.result end.0 c.in-Stop.outcome is.way ran
    end.1.0 end.1.1)

pub returns-in-Stop-clause-known : goal.returns-in-Stop-clause-known
returns-in-Stop-clause-known g c =
    let pages = g.T.Timeline.pages c.args.timeline.now in
    let touches = g.T.Timeline.touches c.args.timeline.now in
    let before = c.loop-next.invariant.marked in
    let is = before.is in
    let ran = c.end_round-ran.ensures.ran is.coming is.way.at (c.send_pages-sent.ensures.sent is.coming before.at) in
    c.remember.ensures.known pages touches c.loop-next.invariant.known
    (runs_ahead pages touches c.args.settings.now (record { numbers = c.loop-next.now; since = c.loop-next.since })
    c.new-start.result c.end_round-ran.result is c.new-start.ensures ran)

pub loop-next-preserved : goal.loop-next-preserved
loop-next-preserved g c =
    let pages = g.T.Timeline.pages c.args.timeline.now in
    let touches = g.T.Timeline.touches c.args.timeline.now in
    let s = c.args.settings.now in
    let now = c.loop-next.now in
    let before = c.loop-next.invariant.marked in
    let is = before.is in
    let round = c.end_round-ran.ensures in
    let ran = round.ran is.coming is.way.at (c.send_pages-sent.ensures.sent is.coming before.at) in
    let next = rw c.in-Round.is at c.after.ensures in
    record {
      marked = marked_ahead_next pages touches s (record { numbers = now; since = c.loop-next.since })
          (record { numbers = c.in-Round.next; since = Some now.step.from }) c.end_round-ran.result
          c.in-Round.next.step c.loop-next.marks c.loop-next.room c.end_round-ran.new.marks c.end_round-ran.new.room
          before ran next.0 next.1 refl round.turned round.room;
      known = c.remember.ensures.known pages touches c.loop-next.invariant.known
          (runs_ahead pages touches s (record { numbers = now; since = c.loop-next.since }) c.new-start.result
          c.end_round-ran.result is c.new-start.ensures ran);
      slots = c.remember.ensures.len ∙ c.loop-next.invariant.slots;
    }
