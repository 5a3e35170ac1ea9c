use Rattle.std.proofs.Common.{append_assoc}
use Rattle.report_pictures.specs.StartCharts.{start_words}
use Rattle.report_pictures.proofs.start_curves.push_start_words.Goals as goal

pub returns : goal.returns
unfolding start_words
returns c = rw (
  c.in_ok-push_spread.ensures,
  c.in_ok-push_time.ensures,
  c.in_ok-push_words-2.ensures,
  c.in_ok-push_moment.ensures,
  c.micros.ensures.time,
  c.in_ok-push_words.ensures,
) (simp append_assoc)
