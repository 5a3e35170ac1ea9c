use Rattle.std.proofs.Common.{append_assoc}
use Rattle.sweep_report.proofs.lines.push_sizes.Goals as goal

pub returns : goal.returns
returns c =
    rw (
      c.in_ok-end_line.ensures,
      c.in_ok-push_field-3.ensures,
      c.in_ok-push_field-2.ensures,
      c.in_ok-push_field.ensures,
    ) (simp append_assoc)
