use Rattle.std.proofs.Common.{◌≡◌, ap, append_assoc}
use Rattle.std.proofs.lemmas.List.{append-nil}
use Rattle.predictions.specs.Looks.{LookForecast}
use Rattle.trace_views.proofs.looks_document.write_ended.Goals as goal

pub returns : goal.returns
returns c =
    let forecast = c.args.forecast.now in
    let same = c.forecast.view_is in
    let looks : c.forecast.inside.looks ≡ forecast.looks = ap (λ (f : LookForecast). f.looks) same in
    let time : c.forecast.inside.time ≡ forecast.time = ap (λ (f : LookForecast). f.time) same in
    let bytes : c.forecast.inside.bytes ≡ forecast.bytes = ap (λ (f : LookForecast). f.bytes) same in
    let down : c.forecast.inside.downtime ≡ forecast.downtime = ap (λ (f : LookForecast). f.downtime) same in
    let kept : c.forecast.inside.is_kept ≡ forecast.is_kept = ap (λ (f : LookForecast). f.is_kept) same in
    rw (
      c.in_ok-flag_member.ensures,
      c.in_ok-seconds_member-2.ensures,
      c.in_ok-wide_member.ensures,
      c.in_ok-seconds_member.ensures,
      c.in_ok-number_member.ensures,
      looks,
      time,
      bytes,
      down,
      kept,
    ) (simp (append_assoc, append-nil))
