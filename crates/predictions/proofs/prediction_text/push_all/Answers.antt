use Rattle.std.proofs.Common.{◌≡◌, ap, append_assoc}
use Rattle.std.proofs.lemmas.List.{append-nil}
use Rattle.predictions.specs.Redrawn.Errors.{SampleErrors}
use Rattle.predictions.proofs.prediction_text.push_all.Goals as goal

pub returns : goal.returns
returns c =
    let bytes : c.errors.inside.bytes ≡ c.args.errors.now.bytes = ap (λ (e : SampleErrors). e.bytes) c.errors.view_is in
    let time : c.errors.inside.time ≡ c.args.errors.now.time = ap (λ (e : SampleErrors). e.time) c.errors.view_is in
    let down : c.errors.inside.downtime ≡ c.args.errors.now.downtime =
    ap (λ (e : SampleErrors). e.downtime) c.errors.view_is in
    rw (
      c.in_ok-end_line.ensures,
      c.in_ok-push_error-2.ensures,
      c.in_ok-extend_from_slice-3.ensures.items,
      c.as_bytes-3.ensures.value,
      c.in_ok-push_error.ensures,
      c.in_ok-extend_from_slice-2.ensures.items,
      c.as_bytes-2.ensures.value,
      c.in_ok-push_bytes.ensures,
      c.in_ok-extend_from_slice.ensures.items,
      c.as_bytes.ensures.value,
      bytes,
      time,
      down,
    ) (simp (append_assoc, append-nil))
