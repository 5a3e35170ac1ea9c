use Rattle.std.proofs.Common.{length}
use Rattle.std.proofs.lemmas.List.MinMax.{IsFirstBest-unique}
use Rattle.move_schedules.proofs.Orders.{better_order, no_cost}
use Rattle.move_schedules.proofs.laws.one_best_schedule.Goals as goal

pub returns : goal.returns
returns c = λ costs a b x y. IsFirstBest-unique better_order costs (length costs) a b no_cost x y
