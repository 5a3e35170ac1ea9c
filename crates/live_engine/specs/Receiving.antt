-- Receivers, their lanes, and what arrives.
use Rattle.std.specs.Prelude.{◌≡◌, ℕ, List, Some, length, map, slice_get}
use Rattle.std.specs.List.{All, Any, Contains}
use Rattle.migration_model.specs.Frames.{GuestShape}
use Rattle.migration_model.specs.Parts.{GuestPart}
use Rattle.stream_lanes.specs.Ends.{LaneId, OutView}
use Rattle.stream_receivers.specs.Receivers.{HasFrames, ReceiverView}

-- which lanes a receiver has
abbrev pub lanes_in : ReceiverView → List LaneId
lanes_in receiver = map (λ end. end.lane) receiver.ends

-- which lanes a receiver has, and of which guest its part is
abbrev pub identity_of : ReceiverView → List LaneId × GuestShape
identity_of receiver = (lanes_in receiver, receiver.part.shape)

-- each lane has its two ends: one at its copier's place for the stream, one at the stream's for the copier
pub record AreCrossed (copiers streams : ℕ) (sending taking : List (List LaneId)) : Type 0 where
  pub copiers_are : length sending ≡ copiers
  pub streams_are : length taking ≡ streams
  pub rows : All (λ row. length row ≡ streams) sending
  pub columns : All (λ column. length column ≡ copiers) taking
  pub lanes : (copier stream : ℕ) (row column : List LaneId) → slice_get sending copier ≡ Some row
      → slice_get taking stream ≡ Some column
      → slice_get row stream ≡ slice_get column copier

-- the frame was sent to this stream
abbrev pub IsSentTo : ℕ → List (List OutView) → List ℕ → Type 0
IsSentTo stream rows text = Any (λ outs. (out : OutView) × (slice_get outs stream ≡ Some out)
    × Contains out.sent text) rows

-- a part for each stream, which has what was sent to it and nothing else
pub record HaveArrived (shape : GuestShape) (streams : ℕ) (rows : List (List OutView))
    (parts : List GuestPart) : Type 0 where
  pub count : length parts ≡ streams
  pub each : (stream : ℕ) (part : GuestPart) → slice_get parts stream ≡ Some part
      → HasFrames shape (IsSentTo stream rows) part
