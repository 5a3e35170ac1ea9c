use Rattle.round_planner.specs.Known.{IsPlannerFor}
use Rattle.sweep_report.specs.Sweeping.{AreNumbered}
use Rattle.sweep_report.proofs.sweeping.plan_cases.Given as goal

abbrev pub invariant-loop-place : goal.invariant-loop-place
invariant-loop-place g l = record {
  planner : IsPlannerFor (g.T.Timeline.pages l.timeline) (g.T.Timeline.touches l.timeline) l.planner;
  made : AreNumbered (g.T.Timeline.pages l.timeline) (g.T.Timeline.touches l.timeline) l.cases l.made.items;
}
