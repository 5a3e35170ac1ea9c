use Rattle.std.proofs.Common.{◌≡◌, ap, append_assoc}
use Rattle.predictions.specs.Redrawn.Errors.{SampleErrors}
use Rattle.trace_views.proofs.starts_document.write_all.Goals as goal

pub returns : goal.returns
returns c =
    let same = c.errors.view_is in
    let bytes : c.errors.inside.bytes ≡ c.args.errors.now.bytes = ap (λ (e : SampleErrors). e.bytes) same in
    let time : c.errors.inside.time ≡ c.args.errors.now.time = ap (λ (e : SampleErrors). e.time) same in
    let down : c.errors.inside.downtime ≡ c.args.errors.now.downtime = ap (λ (e : SampleErrors). e.downtime) same in
    rw (
      c.in_ok-end_object.ensures,
      c.in_ok-seconds_member-2.ensures,
      c.in_ok-seconds_member.ensures,
      c.in_ok-wide_member.ensures,
      c.in_ok-begin_object.ensures,
      bytes,
      time,
      down,
    ) (simp append_assoc)
