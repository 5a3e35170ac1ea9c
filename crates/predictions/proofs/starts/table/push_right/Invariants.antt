use Rattle.std.proofs.Common.{◌≡◌, ◌++◌, ◌-◌, ◌≤◌, length, max, replicate}
use Rattle.predictions.proofs.starts.table.push_right.Given as goal

abbrev pub invariant-loop-column : goal.invariant-loop-column
invariant-loop-column l = record {
  text : l.text.items ≡ l.fn.text.items ++ replicate (l._column - length l.words) 32;
  high : l._column ≤ max (length l.words) l.width;
}
