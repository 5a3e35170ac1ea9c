use Rattle.predictions.specs.Starts.Choices.{is_worse_start}
use Rattle.predictions.proofs.OneRange.{one_chosen}
use Rattle.predictions.proofs.Orders.{worse_order}
use Rattle.predictions.proofs.laws.one_worst.Goals as goal

pub returns : goal.returns
returns c = λ limit costs a b x y. one_chosen (is_worse_start limit) (worse_order limit) costs a b x y
