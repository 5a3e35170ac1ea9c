use Rattle.std.proofs.Common.{◌≡◌, ◌++◌}
use Rattle.trace_views.specs.Json.{round_object}
use Rattle.trace_views.proofs.Numbered.{first_tokens}
use Rattle.trace_views.proofs.report_document.write_rounds.Given as goal

abbrev pub invariant-loop-number : goal.invariant-loop-number
invariant-loop-number l = l.out ≡ l.fn.out ++ first_tokens (round_object l.scale l.max) l.number l.rounds
