use Rattle.std.proofs.Common.{append_assoc}
use Rattle.report_pictures.proofs.hot_pages.push_hot.Goals as goal

pub returns : goal.returns
returns c = (
  c.in_ok-spots.ensures.0,
  rw (
    c.in_ok-end_line.ensures,
    c.in_ok-extend_from_slice.ensures.items,
    c.deref.ensures.value,
    c.in_ok-spots.ensures.1,
    c.in_ok-push_count.ensures,
  ) (simp append_assoc),
)
