-- Pieces of several streams, in the order in which they come. This project's own.
use Rattle.std.specs.Prelude.{◌≡◌, ◌≢◌, ℕ, ◌==◌, if◌then◌else◌, List, [], ◌∷◌, ◌++◌, drop, map, Option}
use Rattle.std.specs.List.{flat_map, range_with_len}
use Rattle.migration_model.specs.Final.{shape_of_trace}
use Rattle.migration_model.specs.Trace.{GuestTrace}
use Rattle.page_message.specs.declared.error.FrameError.TheVariants.{Short}
use Rattle.stream_check.specs.Checked.{Checked, TakesAll, both_taken, checked_with}
use Rattle.stream_check.specs.Faults.{refused_for}
use Rattle.stream_check.specs.Stamps.{no_stamps}
use Rattle.stream_check.specs.declared.faults.WrongFrame.{WrongFrame}
use Rattle.stream_check.specs.declared.taken.Taken.{Taken}

-- a piece, and the number of its stream
pub record StreamPiece : Type 0 where
  pub stream : ℕ
  pub bytes : List ℕ

-- the bytes of a stream in these pieces, and of each of the first streams
abbrev pub bytes_of : List StreamPiece → ℕ → List ℕ
bytes_of pieces stream = flat_map (λ piece. if piece.stream == stream then piece.bytes else []) pieces

abbrev pub texts_in : List StreamPiece → ℕ → List (List ℕ)
texts_in pieces count = map (bytes_of pieces) (range_with_len 0 count)

-- what is known of a stream between two of its pieces: its last stamps, how much of it is taken, and what is left, the
-- beginning of a frame
pub record StreamKnown : Type 0 where
  pub last : List (Option ℕ)
  pub taken : Taken
  pub left : List ℕ

-- what is known of each stream, by its number, and the greatest stamps of all
pub record Known : Type 0 where
  pub stream : ℕ → StreamKnown
  pub greatest : List (Option ℕ)

-- before anything came
abbrev pub nothing_known : ℕ → Known
nothing_known pages = record {
  stream = λ n. record { last = no_stamps pages; taken = record { frames = 0; bytes = 0 }; left = [] };
  greatest = no_stamps pages;
}

-- what a piece of this stream is checked against
abbrev pub known_of : GuestTrace → ℕ → Known → ℕ → Checked
known_of trace stop known stream =
    checked_with (shape_of_trace trace) stop (known.stream stream).last known.greatest

-- a piece behind what its stream left
abbrev pub with_left : Known → StreamPiece → List ℕ
with_left known piece = (known.stream piece.stream).left ++ piece.bytes

-- all whole frames of that are taken, and of another stream nothing new is known
pub record TakesPiece (trace : GuestTrace) (stop : ℕ) (old : Known) (piece : StreamPiece) (new : Known) : Type 0 where
  pub taken : Taken
  pub takes : TakesAll trace (known_of trace stop old piece.stream) (known_of trace stop new piece.stream)
      (with_left old piece) taken
  pub taken_is : (new.stream piece.stream).taken ≡ both_taken (old.stream piece.stream).taken taken
  pub left_is : (new.stream piece.stream).left ≡ drop taken.bytes (with_left old piece)
  pub others : (n : ℕ) → n ≢ piece.stream → new.stream n ≡ old.stream n

-- so pieces come
abbrev pub TakesPieces : GuestTrace → ℕ → Known → List StreamPiece → Known → Type 0
TakesPieces trace stop old [] new = new ≡ old
TakesPieces trace stop old (piece ∷ pieces) new =
    (mid : Known) × TakesPiece trace stop old piece mid × TakesPieces trace stop mid pieces new

-- the frame that is cut off where a stream ends and bytes are left
abbrev pub cut_off : Taken → WrongFrame
cut_off taken = record { number = taken.frames; offset = taken.bytes; fault = refused_for Short }
