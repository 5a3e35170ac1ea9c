use Rattle.std.proofs.Common.{◌≡◌, ap, append_assoc}
use Rattle.std.proofs.lemmas.List.{append-nil}
use Rattle.predictions.specs.Looks.{LookForecast}
use Rattle.predictions.proofs.looks.forecast_text.push_ended.Goals as goal

pub returns : goal.returns
returns c =
    let forecast = c.args.forecast.now in
    let looks : c.forecast.inside.looks ≡ forecast.looks = ap (λ (f : LookForecast). f.looks) c.forecast.view_is in
    let time : c.forecast.inside.time ≡ forecast.time = ap (λ (f : LookForecast). f.time) c.forecast.view_is in
    let bytes : c.forecast.inside.bytes ≡ forecast.bytes = ap (λ (f : LookForecast). f.bytes) c.forecast.view_is in
    let down : c.forecast.inside.downtime ≡ forecast.downtime =
    ap (λ (f : LookForecast). f.downtime) c.forecast.view_is in
    let kept : c.forecast.inside.is_kept ≡ forecast.is_kept = ap (λ (f : LookForecast). f.is_kept) c.forecast.view_is in
    rw (
      c.in_ok-end_line.ensures,
      c.in_ok-extend_from_slice-4.ensures.items,
      c.as_bytes-4.ensures.value,
      c.verdict_of.ensures,
      c.in_ok-push_time-2.ensures,
      c.in_ok-extend_from_slice-3.ensures.items,
      c.as_bytes-3.ensures.value,
      c.in_ok-push_bytes.ensures,
      c.in_ok-extend_from_slice-2.ensures.items,
      c.as_bytes-2.ensures.value,
      c.in_ok-push_time.ensures,
      c.in_ok-extend_from_slice.ensures.items,
      c.as_bytes.ensures.value,
      c.in_ok-push_field.ensures,
      looks,
      time,
      bytes,
      down,
      kept,
    ) (simp (append_assoc, append-nil))
