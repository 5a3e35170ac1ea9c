use Rattle.predictions.proofs.OneRange.{one_ranges}
use Rattle.predictions.proofs.laws.one_ranges.Goals as goal

pub returns : goal.returns
returns c = one_ranges
