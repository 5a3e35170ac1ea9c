use Rattle.std.proofs.Common.{◌≡◌, take}
use Rattle.predictions.specs.Starts.Choices.{known_of}
use Rattle.predictions.proofs.starts.choosing.known_starts.Given as goal

abbrev pub invariant-loop-at : goal.invariant-loop-at
invariant-loop-at l = l.known.items ≡ known_of (take l.at-index l.costs)
