use Rattle.std.proofs.Common.{◌≡◌, ◌++◌, take}
use Rattle.trace_views.specs.AdviceText.{number_fields}
use Rattle.trace_views.proofs.advice_writing.push_list.Given as goal

abbrev pub invariant-loop-number : goal.invariant-loop-number
invariant-loop-number l = l.text.items ≡ l.initial.text.items ++ number_fields (take l.number-index l.numbers)
