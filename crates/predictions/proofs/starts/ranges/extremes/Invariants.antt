use Rattle.std.proofs.Common.{take}
use Rattle.predictions.specs.Starts.Ranges.{AreExtremes}
use Rattle.predictions.proofs.starts.ranges.extremes.Given as goal

abbrev pub invariant-loop-number : goal.invariant-loop-number
invariant-loop-number l = AreExtremes (take l.number l.known) l.least l.greatest
