use Rattle.std.proofs.Common.{append_assoc}
use Rattle.predictions.proofs.prediction_text.push_time_line.Goals as goal

pub returns : goal.returns
returns c = rw (
  c.in_ok-end_line.ensures,
  c.in_ok-push_time.ensures,
  c.in_ok-extend_from_slice.ensures.items,
  c.as_bytes.ensures.value,
) (simp append_assoc)
