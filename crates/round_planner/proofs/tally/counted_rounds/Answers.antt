use Rattle.std.proofs.Common.{◌≡◌, ◌∙◌, ◌&&◌, false, leb, Some, ap, refl}
use Rattle.round_planner.proofs.KnownRounds.{ahead_next, runs_ahead}
use Rattle.round_planner.proofs.Outcomes.{comes_to, is_outcome}
use Rattle.round_planner.proofs.tally.counted_rounds.Goals as goal

pub returns-in-Stop-clause-outcome : goal.returns-in-Stop-clause-outcome
returns-in-Stop-clause-outcome g c =
    let s = c.args.settings.now in
    let before = c.loop-next.invariant.ahead in
    let plain : (s.skip && leb 1 before.coming.done) ≡ false =
    ap (λ b. b && leb 1 before.coming.done) c.requires.plain in
    let ran = c.counted_round-ran.ensures before.coming before.way.at plain in
    let end = rw c.in-Stop.is at c.after.ensures in
    is_outcome _ _ s _ c.in-Stop.outcome
    (comes_to _ _ s c.loop-next.now before.coming before.rounds c.counted_round-ran.result end.0 c.in-Stop.outcome
    before.way ran end.1.0 end.1.1)

pub loop-next-preserved : goal.loop-next-preserved
loop-next-preserved g c =
    let pages = g.T.Timeline.pages c.args.timeline.now in
    let touches = g.T.Timeline.touches c.args.timeline.now in
    let s = c.args.settings.now in
    let now = c.loop-next.now in
    let before = c.loop-next.invariant.ahead in
    let plain : (s.skip && leb 1 before.coming.done) ≡ false =
    ap (λ b. b && leb 1 before.coming.done) c.requires.plain in
    let ran = c.counted_round-ran.ensures before.coming before.way.at plain in
    let next = rw c.in-Round.is at c.after.ensures in
    record {
      ahead = ahead_next pages touches s (record { numbers = now; since = c.loop-next.since })
          (record { numbers = c.in-Round.next; since = Some now.step.from }) c.counted_round-ran.result
          c.in-Round.next.step before ran next.0 next.1 refl;
      known = c.remember.ensures.known pages touches c.loop-next.invariant.known
          (runs_ahead pages touches s (record { numbers = now; since = c.loop-next.since }) c.new-start.result
          c.counted_round-ran.result before c.new-start.ensures ran);
      slots = c.remember.ensures.len ∙ c.loop-next.invariant.slots;
    }
