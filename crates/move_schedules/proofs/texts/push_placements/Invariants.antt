use Rattle.std.proofs.Common.{◌≡◌, ◌++◌, take}
use Rattle.std.specs.List.{flat_map}
use Rattle.move_schedules.specs.Answers.{placement_line}
use Rattle.move_schedules.proofs.texts.push_placements.Given as goal

abbrev pub invariant-loop-placement : goal.invariant-loop-placement
invariant-loop-placement l = l.text.items ≡ l.fn.text.items ++ flat_map placement_line (take l.placement-index l.placed)
