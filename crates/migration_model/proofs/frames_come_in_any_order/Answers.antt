use Rattle.migration_model.proofs.AnyOrder.{any_order_lem}
use Rattle.migration_model.proofs.frames_come_in_any_order.Goals as goal

pub returns : goal.returns
returns c = any_order_lem
