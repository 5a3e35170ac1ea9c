use Rattle.std.proofs.Common.{◌≡◌, map, take}
use Rattle.c_answers.specs.Buffers.{over}
use Rattle.c_answers.specs.Sweeps.{line_sums}
use Rattle.c_answers.proofs.sweeps.put_lines.Given as goal

abbrev pub invariant-loop-number : goal.invariant-loop-number
invariant-loop-number l = l.room ≡ over (map line_sums (take l.number l.lines)) l.fn.room
