use Rattle.std.proofs.Common.{◌≡◌, replicate}
use Rattle.sweep_report.proofs.Taken.{no_line}
use Rattle.sweep_report.proofs.sweeping.no_lines.Given as goal

abbrev pub invariant-loop : goal.invariant-loop
invariant-loop l = l.taken.items ≡ replicate l.counter no_line
