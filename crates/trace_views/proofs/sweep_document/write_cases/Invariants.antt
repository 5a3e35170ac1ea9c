use Rattle.std.proofs.Common.{◌≡◌, ◌++◌}
use Rattle.trace_views.specs.Json.{case_object}
use Rattle.trace_views.proofs.Numbered.{first_tokens}
use Rattle.trace_views.proofs.sweep_document.write_cases.Given as goal

abbrev pub invariant-loop-number : goal.invariant-loop-number
invariant-loop-number l = l.out ≡ l.fn.out ++ first_tokens (case_object l.scale) l.number l.lines
