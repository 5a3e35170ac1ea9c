use Rattle.std.proofs.Common.{◌≡◌, ◌++◌, replicate}
use Rattle.std.specs.List.{concat}
use Rattle.report_pictures.proofs.bar.push_blocks.Given as goal

abbrev pub invariant-loop-cell : goal.invariant-loop-cell
invariant-loop-cell l = l.text.items ≡ l.fn.text.items ++ concat (replicate l._cell l.block)
