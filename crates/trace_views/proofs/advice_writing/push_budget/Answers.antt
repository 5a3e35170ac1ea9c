use Rattle.std.proofs.Common.{append_assoc}
use Rattle.trace_views.proofs.advice_writing.push_budget.Goals as goal

pub returns : goal.returns
returns c =
    rw (c.in_ok-end_line.ensures, c.in_ok-push_total.ensures, c.in_ok-push_field.ensures) (simp append_assoc)
