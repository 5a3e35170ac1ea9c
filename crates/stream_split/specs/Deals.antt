-- Which frames go to which stream. This project's own.
use Rattle.std.specs.Prelude.{ℕ, ◌%◌, ◌==◌, List, map, filter}
use Rattle.std.specs.List.{enumerate_from, flat_map, range_with_len}
use Rattle.migration_model.specs.Frames.{PageFrame, frame_text}

-- how many streams there are, and the one whose turn it is
pub record Turn : Type 0 where
  pub streams : ℕ
  pub next : ℕ

abbrev pub turn_with : ℕ → ℕ → Turn
turn_with streams next = record { streams = streams; next = next }

-- the frames of a stream, in order: frame n, counted from 0, goes to stream n modulo their number
abbrev pub dealt : ℕ → List PageFrame → ℕ → List PageFrame
dealt streams frames stream = map (λ at. at.1) (filter (λ at. at.0 % streams == stream) (enumerate_from 0 frames))

-- what each stream holds: the encodings of its frames
abbrev pub streams_of : ℕ → List PageFrame → List (List ℕ)
streams_of streams frames = map (λ stream. flat_map frame_text (dealt streams frames stream)) (range_with_len 0 streams)
