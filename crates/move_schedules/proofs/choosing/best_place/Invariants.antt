use Rattle.std.specs.List.{IsFirstBest}
use Rattle.move_schedules.specs.Choices.{is_better_schedule}
use Rattle.move_schedules.proofs.choosing.best_place.Given as goal

abbrev pub invariant-loop-number : goal.invariant-loop-number
invariant-loop-number l = IsFirstBest is_better_schedule l.costs l.number l.best
