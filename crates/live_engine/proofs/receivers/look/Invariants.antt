use Rattle.std.proofs.Common.{◌≡◌}
use Rattle.live_engine.specs.Receiving.{identity_of}
use Rattle.live_engine.proofs.receivers.look.Given as goal

abbrev pub invariant-loop-worker : goal.invariant-loop-worker
invariant-loop-worker g l = identity_of l.receiver ≡ identity_of l.fn.receiver
