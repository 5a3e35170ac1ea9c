use Rattle.stream_lanes.specs.Ends.{IsSentOn}
use Rattle.stream_receivers.proofs.Received.{received_joined}
use Rattle.stream_receivers.proofs.laws.received_part_is_a_join.Goals as goal

pub returns : goal.returns
returns c shape outs = received_joined shape (IsSentOn outs)
