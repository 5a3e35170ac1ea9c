-- A trace whose bytes come piece by piece from a source.
use Rattle.std.specs.Prelude.{◌≡◌, ◌<◌, ◌≤◌, ℕ, ◌+◌, ◌^◌, ◌++◌, Bool, true, false, List, [], length, Option}
use Rattle.std.specs.Io.KnownBytes.{Consumes, IsAtEnd}
use Rattle.migration_model.specs.Numbers.{IsBytes}
use Rattle.migration_model.specs.Trace.{GuestTrace, IsTrace}
use Rattle.migration_model.specs.Touches.{GuestTouches, touches_in}
use Rattle.trace_codec.specs.Reading.{IsCut}
use Rattle.trace_codec.specs.Source.{SourceSpells}
use Rattle.trace_codec.specs.declared.error.TraceError.{TraceError}
use Rattle.trace_codec.specs.declared.error.TraceError.TheVariants as errors

-- the bytes that came and are not taken yet, and how many came at all
pub record PiecesState : Type 0 where
  pub rest : List ℕ
  pub count : ℕ

abbrev pub pieces_state : List ℕ → ℕ → PiecesState
pieces_state rest count = record { rest = rest; count = count }

-- what one more read put after the bytes that were left: some bytes, or none at the end of the source
pub record HasRead (old new : Option (List ℕ)) (before after : PiecesState) (more : Bool) : Type 0 where
  pub bytes : List ℕ
  pub fits : IsBytes bytes
  pub few : length bytes ≤ 2 ^ 18
  pub came : Consumes old new bytes
  pub rest_is : after.rest ≡ before.rest ++ bytes
  pub count_is : after.count ≡ before.count + length bytes
  pub some : more ≡ true → 0 < length bytes
  pub ended : more ≡ false → (bytes ≡ []) × IsAtEnd new

-- the pieces are all that came from a source, and these are its bytes so far
pub record CameAs (old new : Option (List ℕ)) (count : ℕ) (text : List ℕ) : Type 0 where
  pub came : Consumes old new text
  pub count_is : count ≡ length text

-- nothing was taken yet
pub record IsUntaken (old new : Option (List ℕ)) (pieces : PiecesState) : Type 0 where
  pub came : CameAs old new pieces.count pieces.rest
  pub fits : IsBytes pieces.rest

-- the header was taken, and these are the version and the sizes in it
pub record HasHeader (old new : Option (List ℕ)) (version shift pages writes : ℕ) (pieces : PiecesState) : Type 0 where
  pub text : List ℕ
  pub came : CameAs old new pieces.count text
  pub cut : IsCut text version shift pages writes pieces.rest

-- whether more bytes may end this refusal
abbrev pub wants_bytes : TraceError → Bool
wants_bytes errors.ShortHeader = true
wants_bytes (errors.ShortRecord record_index) = true
wants_bytes e = false

-- the log of a trace that the source holds
abbrev pub IsLogOf : Option (List ℕ) → GuestTouches → Type 0
IsLogOf known log = (trace : GuestTrace) × IsTrace trace × SourceSpells known trace × (log ≡ touches_in trace)
