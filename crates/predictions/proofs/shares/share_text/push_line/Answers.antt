use Rattle.std.proofs.Common.{append_assoc}
use Rattle.std.proofs.lemmas.List.{append-nil}
use Rattle.predictions.proofs.shares.share_text.push_line.Goals as goal

pub returns : goal.returns
returns c =
    rw (
      c.in_ok-end_line.ensures,
      c.in_ok-push_below.ensures,
      c.in_ok-extend_from_slice-2.ensures.items,
      c.as_bytes-2.ensures.value,
      c.in_ok-push_from.ensures,
      c.in_ok-extend_from_slice.ensures.items,
      c.as_bytes.ensures.value,
      c.share_words.ensures,
    ) (simp (append_assoc, append-nil))
