-- How the ends of a ring are viewed as those of a lane.
use Rattle.std.specs.Prelude.{Vec, ℕ, List, map}
use Rattle.std.specs.Global.{Global}
use Rattle.rtrb.specs.Ring.{sent, received, known_free, known_items}
use Rattle.rtrb.specs.declared.end.End.{End}
use Rattle.rtrb.specs.declared.producer.Producer.{Producer}
use Rattle.rtrb.specs.declared.consumer.Consumer.{Consumer}
use Rattle.stream_lanes.specs.Ends.{LaneId, OutView, InView}

-- the bytes of each frame
abbrev pub frames_of : List (Vec ℕ Global) → List (List ℕ)
frames_of frames = map (λ frame. frame.items) frames

module _ {A P : Type 0} where
  abbrev pub lane_of : End (Vec ℕ Global) A P → LaneId
  lane_of e = record { words = e.words; slots = e.slots; capacity = e.names.0; names = e.names.1 }

  abbrev pub out_view : Producer (Vec ℕ Global) A P → OutView
  out_view p = record { lane = lane_of p.end; room = known_free p; sent = frames_of (sent p) }

  abbrev pub in_view : Consumer (Vec ℕ Global) A P → InView
  in_view c = record { lane = lane_of c.end; taken = frames_of (received c); seen = frames_of (known_items c) }

  abbrev pub rest_view : Consumer (Vec ℕ Global) A P → List (List ℕ)
  rest_view c = frames_of (known_items c)
