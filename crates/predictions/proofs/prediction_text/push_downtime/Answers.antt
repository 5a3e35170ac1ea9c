use Rattle.std.proofs.Common.{append_assoc}
use Rattle.std.proofs.lemmas.List.{append-nil}
use Rattle.predictions.proofs.prediction_text.push_downtime.Goals as goal

pub returns : goal.returns
returns c =
    rw (
      c.in_ok-end_line.ensures,
      c.in_ok-push_kept.ensures,
      c.in_ok-extend_from_slice-2.ensures.items,
      c.as_bytes-2.ensures.value,
      c.word.ensures,
      c.in_ok-extend_from_slice.ensures.items,
      c.as_bytes.ensures.value,
      c.in_ok-push_times.ensures,
    ) (simp (append_assoc, append-nil))
