use Rattle.std.proofs.Common.{rules, ◌≡◌, length}
use Rattle.round_planner.proofs.KnownRounds.{none_known}
use Rattle.round_planner.proofs.planner.Planner.new.Goals as goal

pub returns-clause-planner : goal.returns-clause-planner
returns-clause-planner g c =
    let pages : length c.in_ok-from_elem-2.field-0.items ≡ g.T.Timeline.pages c.args.timeline.now = search rules in
    record {
      pages_are = pages;
      known = none_known (g.T.Timeline.pages c.args.timeline.now) (g.T.Timeline.touches c.args.timeline.now)
          c.in_ok-no_rounds.field-0.items c.in_ok-no_rounds.ensures;
    }
