use Rattle.round_planner.specs.Known.{IsPlannerFor}
use Rattle.sweep_report.specs.Sweeping.{AreNumbered}
use Rattle.sweep_report.proofs.sweeping.take_cases.Given as goal

abbrev pub invariant-loop : goal.invariant-loop
invariant-loop g l = record {
  planner : IsPlannerFor (g.T.Timeline.pages l.timeline) (g.T.Timeline.touches l.timeline) l.planner;
  made : AreNumbered (g.T.Timeline.pages l.timeline) (g.T.Timeline.touches l.timeline) l.cases l.made.items;
}
