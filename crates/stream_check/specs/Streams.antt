-- The streams of a migration, as bytes, and the first thing that is wrong in them. This project's own.
use Rattle.std.specs.Prelude.{◌≡◌, ℕ, List, [], ◌∷◌, ◌++◌, length, map, take, drop}
use Rattle.std.specs.List.{All, flat_map}
use Rattle.migration_model.specs.Trace.{GuestTrace}
use Rattle.migration_model.specs.Frames.{PageFrame, IsFrame, frame_text}
use Rattle.migration_model.specs.Final.{shape_of_trace}
use Rattle.stream_check.specs.Stamps.{no_stamps, greatest_stamps}
use Rattle.stream_check.specs.Faults.{AreRight, IsFirstWrong}
use Rattle.stream_check.specs.Ends.{IsFirstBehind}
use Rattle.stream_check.specs.Receivers.{AreRightStreams, all_frames}
use Rattle.stream_check.specs.declared.faults.WrongFrame.{WrongFrame}
use Rattle.stream_check.specs.declared.faults.WrongPage.{WrongPage}
use Rattle.stream_check.specs.declared.error.StreamsError.{StreamsError}
use Rattle.stream_check.specs.declared.error.StreamsError.TheVariants.{Memory, Frame, Page}

-- bytes cut into streams of these lengths
abbrev pub cut_by : List ℕ → List ℕ → List (List ℕ)
cut_by [] bytes = []
cut_by (size ∷ sizes) bytes = take size bytes ∷ cut_by sizes (drop size bytes)

-- the encodings of streams of frames
abbrev pub texts_of : List (List PageFrame) → List (List ℕ)
texts_of streams = map (λ frames. flat_map frame_text frames) streams

-- these are whole streams of frames, with none of which anything is wrong in its stream
pub record AreStreams (trace : GuestTrace) (stop : ℕ) (texts : List (List ℕ))
    (streams : List (List PageFrame)) : Type 0 where
  pub texts_are : texts ≡ texts_of streams
  pub are_frames : All (All (IsFrame (shape_of_trace trace))) streams
  pub right : All (AreRight trace stop (no_stamps trace.pages)) streams

-- nothing is wrong in streams with these bytes
pub record IsAllRight (trace : GuestTrace) (stop : ℕ) (texts : List (List ℕ)) : Type 0 where
  pub streams : List (List PageFrame)
  pub texts_are : texts ≡ texts_of streams
  pub right : AreRightStreams trace stop streams

-- the streams before this one are right, and this is the first frame in it that is wrong
pub record IsWrongIn (trace : GuestTrace) (stop : ℕ) (texts : List (List ℕ)) (stream : ℕ)
    (found : WrongFrame) : Type 0 where
  pub streams : List (List PageFrame)
  pub number : length streams ≡ stream
  pub bytes : List ℕ
  pub more : List (List ℕ)
  pub parts : texts ≡ texts_of streams ++ bytes ∷ more
  pub are_frames : All (All (IsFrame (shape_of_trace trace))) streams
  pub right : All (AreRight trace stop (no_stamps trace.pages)) streams
  pub first : IsFirstWrong trace stop (no_stamps trace.pages) bytes found

-- all frames are right, and this is the first page that is not current after them
pub record IsWrongAtEnd (trace : GuestTrace) (stop : ℕ) (texts : List (List ℕ)) (found : WrongPage) : Type 0 where
  pub streams : List (List PageFrame)
  pub are : AreStreams trace stop texts streams
  pub behind : IsFirstBehind trace stop (greatest_stamps (no_stamps trace.pages) (all_frames streams)) found

-- the first thing that is wrong in streams with these bytes, unless memory ran out
abbrev pub IsFirstThing : GuestTrace → ℕ → List (List ℕ) → StreamsError → Type 0
IsFirstThing trace stop texts Memory = Unit {0}
IsFirstThing trace stop texts (Frame stream found) = IsWrongIn trace stop texts stream found
IsFirstThing trace stop texts (Page found) = IsWrongAtEnd trace stop texts found
