use Rattle.std.proofs.Common.{ap, arith}
use Rattle.predictions.specs.declared.course.Course.{Course}
use Rattle.predictions.proofs.redrawn.courses.redrawn_rounds.Goals as goal

pub returns-clause-course : goal.returns-clause-course
returns-clause-course g c scale =
    (c.redrawn_outcome-outcome.result, c.redrawn_outcome-outcome.ensures.outcome, c.of_outcome.ensures)

pub returns-clause-total : goal.returns-clause-total
returns-clause-total g c =
    omega (arith, ap (λ (x : Course). x.total) c.of_outcome.ensures, c.redrawn_outcome-outcome.ensures.total)

pub returns-clause-stop : goal.returns-clause-stop
returns-clause-stop g c =
    omega (arith, ap (λ (x : Course). x.stop) c.of_outcome.ensures, c.redrawn_outcome-outcome.ensures.stop)

pub returns-clause-down : goal.returns-clause-down
returns-clause-down g c =
    omega (arith, ap (λ (x : Course). x.down) c.of_outcome.ensures, c.redrawn_outcome-outcome.ensures.down)
