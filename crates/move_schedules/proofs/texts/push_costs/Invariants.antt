use Rattle.std.proofs.Common.{◌≡◌, ◌++◌, take}
use Rattle.std.specs.List.{flat_map}
use Rattle.move_schedules.specs.Answers.{cost_line}
use Rattle.move_schedules.proofs.texts.push_costs.Given as goal

abbrev pub invariant-loop-cost : goal.invariant-loop-cost
invariant-loop-cost l = l.text.items ≡ l.fn.text.items ++ flat_map cost_line (take l.cost-index l.costs)
