use Rattle.collector.proofs.Fated.{one_fate_lem}
use Rattle.collector.proofs.fate.one_fate.Goals as goal

pub returns : goal.returns
returns c = one_fate_lem
