use Rattle.std.proofs.Common.{◌≡◌, ◌++◌, take}
use Rattle.predictions.specs.Starts.Texts.{start_rows}
use Rattle.predictions.proofs.starts.table.push_rows.Given as goal

abbrev pub invariant-loop-at : goal.invariant-loop-at
invariant-loop-at l = l.text.items ≡ l.fn.text.items ++ start_rows l.scale (take l.at-index l.costs)
