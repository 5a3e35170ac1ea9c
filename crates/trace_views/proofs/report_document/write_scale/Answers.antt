use Rattle.std.proofs.Common.{append_assoc}
use Rattle.trace_views.proofs.report_document.write_scale.Goals as goal

pub returns : goal.returns
returns c =
    rw (
      c.in_ok-end_object.ensures,
      c.in_ok-write_page_scale.ensures,
      c.in_ok-seconds_member-2.ensures,
      c.micros.ensures.time,
      c.in_ok-seconds_member.ensures,
      c.tick.ensures,
      c.in_ok-begin_object.ensures,
    ) (simp append_assoc)
