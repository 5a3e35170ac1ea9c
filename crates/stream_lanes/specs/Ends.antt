-- The values of the ends of lanes, as contracts see them. A frame is the list of its bytes. This project's own.
use Rattle.std.specs.Prelude.{◌≡◌, ℕ, ◌<◌, List, ◌++◌}
use Rattle.std.specs.List.{Any, Contains}
use denote.RawPtr.{Ptr}

-- A lane's identity: where its ring is, how many frames that holds, and the names of what its two ends know.
pub record LaneId : Type 0 where
  pub words : Ptr
  pub slots : Ptr
  pub capacity : ℕ
  pub names : ℕ × ℕ

-- the sending end: its lane, how many more frames are known to fit, and all frames sent so far, in order
pub record OutView : Type 0 where
  pub lane : LaneId
  pub room : ℕ
  pub sent : List (List ℕ)

-- the taking end: its lane, all frames taken so far, in order, and those that it has seen and takes next
pub record InView : Type 0 where
  pub lane : LaneId
  pub taken : List (List ℕ)
  pub seen : List (List ℕ)

-- all these frames begin with these
pub record Begins (first all : List (List ℕ)) : Type 0 where
  pub later : List (List ℕ)
  pub is : first ++ later ≡ all

-- one more frame fits
abbrev pub HasRoom : OutView → Type 0
HasRoom out = 0 < out.room

-- the two ends of one lane
abbrev pub IsLane : OutView → InView → Type 0
IsLane out end = end.lane ≡ out.lane

-- one end at two times: it may have sent since
abbrev pub SameOut : OutView → OutView → Type 0
SameOut before after = after.lane ≡ before.lane

-- one end at two times: it may have taken since
abbrev pub SameIn : InView → InView → Type 0
SameIn before after = after.lane ≡ before.lane

-- the frame was sent on one of these lanes
abbrev pub IsSentOn : List OutView → List ℕ → Type 0
IsSentOn outs frame = Any (λ out. Contains out.sent frame) outs

-- the frame was taken from one of these lanes
abbrev pub IsTakenFrom : List InView → List ℕ → Type 0
IsTakenFrom ends frame = Any (λ end. Contains end.taken frame) ends
