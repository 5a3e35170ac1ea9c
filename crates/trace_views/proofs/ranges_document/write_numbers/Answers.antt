use Rattle.std.proofs.Common.{◌≡◌, ap, append_assoc}
use Rattle.predictions.specs.Starts.Ranges.{MigrationNumbers}
use Rattle.trace_views.proofs.ranges_document.write_numbers.Goals as goal

pub returns : goal.returns
returns c =
    let same = c.numbers.view_is in
    let time : c.numbers.inside.time ≡ c.args.numbers.now.time = ap (λ (n : MigrationNumbers). n.time) same in
    let bytes : c.numbers.inside.bytes ≡ c.args.numbers.now.bytes = ap (λ (n : MigrationNumbers). n.bytes) same in
    let downtime : c.numbers.inside.downtime ≡ c.args.numbers.now.downtime =
    ap (λ (n : MigrationNumbers). n.downtime) same in
    rw (
      c.in_ok-end_object.ensures,
      c.in_ok-seconds_member-2.ensures,
      c.in_ok-wide_member.ensures,
      c.in_ok-seconds_member.ensures,
      c.in_ok-begin_object.ensures,
      time,
      bytes,
      downtime,
    ) (simp append_assoc)
