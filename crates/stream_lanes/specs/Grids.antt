-- The lanes between workers and streams.
use Rattle.std.specs.Prelude.{◌≡◌, ℕ, ◌≤◌, List, [], ◌∷◌, ◌++◌, Vec, Some, length, slice_get}
use Rattle.std.specs.Global.{Global}
use Rattle.std.specs.List.{All}
use Rattle.stream_lanes.specs.Ends.{OutView, InView, IsLane}

-- the two ends of a lane of this capacity on which nothing was sent: all of it is known to be free
pub record IsNewLane (capacity : ℕ) (out : OutView) (end : InView) : Type 0 where
  pub lane : IsLane out end
  pub capacity_is : out.lane.capacity ≡ capacity
  pub room : out.room ≡ capacity
  pub sent : out.sent ≡ []
  pub taken : end.taken ≡ []
  pub seen : end.seen ≡ []

-- the lane of each worker and each stream: its ends are in the worker's slot for the stream, and in the stream's slot
-- for the worker
pub record IsGrid (workers streams capacity : ℕ) (outs : List (Vec OutView Global))
    (ins : List (Vec InView Global)) : Type 0 where
  pub workers_are : length outs ≡ workers
  pub streams_are : length ins ≡ streams
  pub out_rows : All (λ row. length row.items ≡ streams) outs
  pub in_rows : All (λ row. length row.items ≡ workers) ins
  pub lanes : (worker stream : ℕ) (out_row : Vec OutView Global)
      (out : OutView) (in_row : Vec InView Global) (end : InView)
      → slice_get outs worker ≡ Some out_row → slice_get out_row.items stream ≡ Some out
      → slice_get ins stream ≡ Some in_row → slice_get in_row.items worker ≡ Some end
      → IsNewLane capacity out end

-- one more end is in a list: that of a new lane whose other end is `out`
pub record AddsLane (capacity : ℕ) (out : OutView) (before after : List InView) : Type 0 where
  pub end : InView
  pub added : after ≡ before ++ end ∷ []
  pub new : IsNewLane capacity out end

-- new lanes from one worker to the first streams: their other ends are added to those of these streams
pub record AddsWorker (capacity : ℕ) (outs : List OutView) (before after : List (Vec InView Global)) : Type 0 where
  pub count : length after ≡ length before
  pub added : (stream : ℕ) (out : OutView) (old new : Vec InView Global) → slice_get outs stream ≡ Some out
      → slice_get before stream ≡ Some old → slice_get after stream ≡ Some new
      → AddsLane capacity out old.items new.items
  pub rest : (stream : ℕ) → length outs ≤ stream → slice_get after stream ≡ slice_get before stream

-- the ends of these rows, by stream
pub record AreColumns (streams : ℕ) (rows columns : List (Vec OutView Global)) : Type 0 where
  pub count : length columns ≡ streams
  pub sizes : All (λ column. length column.items ≡ length rows) columns
  pub same : (worker stream : ℕ) (row column : Vec OutView Global) → slice_get rows worker ≡ Some row
      → slice_get columns stream ≡ Some column
      → slice_get column.items worker ≡ slice_get row.items stream

-- the ends of one more worker, each added to those of its stream
pub record AddsRow (row : List OutView) (before after : List (Vec OutView Global)) : Type 0 where
  pub count : length after ≡ length before
  pub added : (stream : ℕ) (out : OutView) (old new : Vec OutView Global) → slice_get row stream ≡ Some out
      → slice_get before stream ≡ Some old → slice_get after stream ≡ Some new → new.items ≡ old.items ++ out ∷ []
  pub rest : (stream : ℕ) → length row ≤ stream → slice_get after stream ≡ slice_get before stream
