use Rattle.std.proofs.Common.{Some, refl}
use Rattle.round_planner.proofs.KnownRounds.{ahead_next, order_so, ran_known, timed_so}
use Rattle.round_planner.proofs.Outcomes.{comes_to, is_outcome}
use Rattle.round_planner.proofs.known.follow.Goals as goal

pub after-requires-clause-order : goal.after-requires-clause-order
after-requires-clause-order g c =
    let pages = g.T.Timeline.pages c.args._timeline.now in
    let touches = g.T.Timeline.touches c.args._timeline.now in
    let s = c.args.settings.now in
    let now = c.loop-ran.now in
    let is = c.loop-ran.invariant in
    let ran = ran_known pages touches s (record { numbers = now; since = c.loop-ran.since }) c.new-start.result
    c.in-Some.ran is c.new-start.ensures (rw c.in-Some.is at (c.find.ensures pages touches c.requires.known)) in
    order_so pages touches s (record { numbers = now; since = c.loop-ran.since }) c.in-Some.ran is ran

pub after-requires-clause-timed : goal.after-requires-clause-timed
after-requires-clause-timed g c =
    let pages = g.T.Timeline.pages c.args._timeline.now in
    let touches = g.T.Timeline.touches c.args._timeline.now in
    let s = c.args.settings.now in
    let now = c.loop-ran.now in
    let is = c.loop-ran.invariant in
    let ran = ran_known pages touches s (record { numbers = now; since = c.loop-ran.since }) c.new-start.result
    c.in-Some.ran is c.new-start.ensures (rw c.in-Some.is at (c.find.ensures pages touches c.requires.known)) in
    timed_so pages touches s (record { numbers = now; since = c.loop-ran.since }) c.in-Some.ran is ran

pub returns-in-Stop : goal.returns-in-Stop
returns-in-Stop g c =
    let pages = g.T.Timeline.pages c.args._timeline.now in
    let touches = g.T.Timeline.touches c.args._timeline.now in
    let s = c.args.settings.now in
    let now = c.loop-ran.now in
    let is = c.loop-ran.invariant in
    let ran = ran_known pages touches s (record { numbers = now; since = c.loop-ran.since }) c.new-start.result
    c.in-Some.ran is c.new-start.ensures (rw c.in-Some.is at (c.find.ensures pages touches c.requires.known)) in
    let end = rw c.in-Stop.is at c.after.ensures in
    is_outcome _ _ s _ c.in-Stop.outcome
    (comes_to _ _ s now is.coming is.rounds c.in-Some.ran end.0 c.in-Stop.outcome is.way ran end.1.0 end.1.1)

pub loop-ran-preserved : goal.loop-ran-preserved
loop-ran-preserved g c =
    let pages = g.T.Timeline.pages c.args._timeline.now in
    let touches = g.T.Timeline.touches c.args._timeline.now in
    let s = c.args.settings.now in
    let now = c.loop-ran.now in
    let is = c.loop-ran.invariant in
    let ran = ran_known pages touches s (record { numbers = now; since = c.loop-ran.since }) c.new-start.result
    c.in-Some.ran is c.new-start.ensures (rw c.in-Some.is at (c.find.ensures pages touches c.requires.known)) in
    let next = rw c.in-Round.is at c.after.ensures in
    ahead_next pages touches s (record { numbers = now; since = c.loop-ran.since })
    (record { numbers = c.in-Round.next; since = Some now.step.from }) c.in-Some.ran c.in-Round.next.step is ran next.0
    next.1 refl
