use Rattle.std.proofs.Common.{◌∷◌, ap}
use Rattle.migration_model.specs.Parts.{GuestPart}
use Rattle.stream_lanes.specs.Ends.{IsSentOn}
use Rattle.stream_receivers.proofs.Received.{joined_to_first}
use Rattle.stream_receivers.proofs.laws.first_part_is_joined.Goals as goal

pub returns : goal.returns
returns c shape outs first frames part rest is_shape is_part same are agree sent back has =
    ap (λ (joined : GuestPart). joined ∷ rest) (joined_to_first shape (IsSentOn outs) first frames part is_shape is_part
    same are agree sent back has)
