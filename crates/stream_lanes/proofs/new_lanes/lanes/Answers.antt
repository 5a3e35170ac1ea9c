use Rattle.stream_lanes.proofs.Grown.{grid-none, grid-more}
use Rattle.stream_lanes.proofs.new_lanes.lanes.Goals as goal

pub loop-init : goal.loop-init
loop-init c = rw c.in_ok-outs.ensures.items (grid-none _ _ _ c.in_ok-ins.ensures)

pub loop-preserved : goal.loop-preserved
loop-preserved c =
    rw c.in_ok-push.ensures.items (grid-more _ _ _ _ _ _ _ c.loop.invariant c.in_ok-add_worker.ensures.count
    c.in_ok-add_worker.ensures.added)
