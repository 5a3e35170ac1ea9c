use Rattle.std.proofs.Common.{◌≡◌}
use Rattle.live_engine.specs.Receiving.{identity_of}
use Rattle.live_engine.proofs.receivers.receive.Given as goal

abbrev pub invariant-loop : goal.invariant-loop
invariant-loop g l = identity_of l.receiver ≡ identity_of l.fn.receiver
