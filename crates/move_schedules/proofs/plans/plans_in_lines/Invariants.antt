use Rattle.std.proofs.Common.{◌≤◌, length, map, take}
use Rattle.std.specs.List.{AllZip}
use Rattle.move_schedules.specs.Tables.{SpellsPlan}
use Rattle.move_schedules.proofs.plans.plans_in_lines.Given as goal

abbrev pub invariant-loop-number : goal.invariant-loop-number
invariant-loop-number l = record {
  spelled : AllZip SpellsPlan (take l.number (map (λ w. w.now) l.lines)) l.plans.items;
  within : l.number ≤ length l.lines;
}
