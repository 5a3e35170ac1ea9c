use Rattle.std.proofs.Common.{append_assoc}
use Rattle.predictions.proofs.hosts.push_bandwidth.Goals as goal

pub returns : goal.returns
returns c = rw (c.in_ok-extend_from_slice.ensures.items, c.as_bytes.ensures.value, c.in_ok-push_field.ensures)
    (simp append_assoc)
