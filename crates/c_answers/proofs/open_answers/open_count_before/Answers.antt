use Rattle.c_answers.proofs.Replayed.{image_after_count}
use Rattle.c_answers.proofs.TracePoints.{count_at}
use Rattle.c_answers.proofs.open_answers.open_count_before.Goals as goal

pub returns-clause-count : goal.returns-clause-count
returns-clause-count c = count_at c.args.trace.now c.args.tick c.before-count.result c.before-count.ensures.bound
    c.before-count.ensures.point

pub returns-clause-memory : goal.returns-clause-memory
returns-clause-memory c = image_after_count c.args.trace.now c.args.tick c.before-count.result c.shape.ensures.is_trace
    (count_at c.args.trace.now c.args.tick c.before-count.result c.before-count.ensures.bound
    c.before-count.ensures.point)
