use Rattle.std.specs.List.{IsFirstBest}
use Rattle.predictions.specs.Starts.Choices.{is_worse_start}
use Rattle.predictions.proofs.starts.choosing.worst_place.Given as goal

abbrev pub invariant-loop-number : goal.invariant-loop-number
invariant-loop-number l = IsFirstBest (is_worse_start l.limit) l.costs l.number l.worst
