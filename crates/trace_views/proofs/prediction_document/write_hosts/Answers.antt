use Rattle.std.proofs.Common.{append_assoc}
use Rattle.trace_views.proofs.prediction_document.write_hosts.Goals as goal

pub returns : goal.returns
returns c =
    rw (
      c.in_ok-end_object.ensures,
      c.in_ok-number_member-2.ensures,
      c.millis_for_pages.ensures,
      c.in_ok-write_mib.ensures,
      c.link_in_mib.ensures,
      c.in_ok-number_member.ensures,
      c.in_ok-begin_object.ensures,
    ) (simp append_assoc)
