use Rattle.std.proofs.Common.{length}
use Rattle.stream_receivers.specs.Held.{AcceptsFirst}
use Rattle.stream_receivers.proofs.taking.accept_rest.Given as goal

abbrev pub invariant-loop-buffer : goal.invariant-loop-buffer
invariant-loop-buffer l = AcceptsFirst l.fn.part l.part l.fn.refusal l.refusal l.fn.rest l.rest

abbrev pub decreases-loop-buffer : goal.decreases-loop-buffer
decreases-loop-buffer l = length l.rest
