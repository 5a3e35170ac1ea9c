use Rattle.std.proofs.Common.{append_assoc}
use Rattle.report_pictures.specs.Screens.{hot_count}
use Rattle.report_pictures.proofs.hot_pages.push_count.Goals as goal

pub returns : goal.returns
unfolding hot_count
returns c =
    rw (c.in_ok-end_line.ensures, c.in_ok-push_field-2.ensures, c.in_ok-push_field.ensures) (simp append_assoc)
