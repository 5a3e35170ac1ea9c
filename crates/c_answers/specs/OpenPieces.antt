-- What C sees of streams that are checked in pieces over a trace that stays open, in memory that the caller lends. This
-- project's own.
use Rattle.std.specs.Prelude.{◌≡◌, ◌≢◌, ◌⊎◌, ℕ, List, length}
use Rattle.migration_model.specs.Trace.{GuestTrace}
use Rattle.page_message.specs.declared.error.FrameError.TheVariants.{Short}
use Rattle.stream_check.specs.Checked.{StopsAt, TakesAll}
use Rattle.stream_check.specs.Ends.{IsFirstBehind}
use Rattle.stream_check.specs.declared.faults.FrameCause.TheVariants.{Refused}
use Rattle.stream_check.specs.declared.taken.Taken.{Taken}
use Rattle.open_checks.specs.Kept.{AreVersions, IsKept, known_by, stamps_in}
use Rattle.c_answers.specs.Memories.{memory_length}
use Rattle.c_answers.specs.Pieces.{piece_finding}
use Rattle.c_answers.specs.StreamChecks.{number_of_cause, number_of_stamp, page_finding}
use Rattle.c_answers.specs.declared.checking.StreamFinding.{StreamFinding}
use Rattle.c_answers.specs.declared.open_pieces.OpenRefusal.{OpenRefusal}
use Rattle.c_answers.specs.declared.open_pieces.OpenRefusal.TheVariants as refusals
use Rattle.c_answers.specs.declared.pieces.PieceProgress.{PieceProgress}

-- what is lent: the words of a stream's last stamps, those of the greatest of all streams, and memory
pub record Lent : Type 0 where
  pub last : List ℕ
  pub greatest : List ℕ
  pub memory : List ℕ

abbrev pub lent_with : List ℕ → List ℕ → List ℕ → Lent
lent_with last greatest memory = record { last = last; greatest = greatest; memory = memory }

-- there are as many bytes as all pages have, and two words for each page
pub record FitsGuest (trace : GuestTrace) (lent : Lent) : Type 0 where
  pub memory_is : length lent.memory ≡ memory_length trace
  pub last_is : length lent.last ≡ trace.pages
  pub greatest_is : length lent.greatest ≡ trace.pages

-- what a call over memory asks for: this and the words of the greatest stamps began as zeros, and nothing but such
-- calls changed them
abbrev pub KeepsPages : GuestTrace → List ℕ → List ℕ → Type 0
KeepsPages trace greatest memory =
    length greatest ≡ trace.pages → length memory ≡ memory_length trace → IsKept trace greatest memory

abbrev pub KeepsVersions : GuestTrace → List ℕ → Type 0
KeepsVersions trace greatest = length greatest ≡ trace.pages → AreVersions trace greatest

-- all whole frames of a piece are right, and taken
abbrev pub IsOpenPiece : GuestTrace → ℕ → List ℕ → Lent → Lent → Taken → Type 0
IsOpenPiece trace stop piece old new taken = FitsGuest trace old
    × TakesAll trace (known_by trace stop old.last old.greatest) (known_by trace stop new.last new.greatest) piece taken

-- there are not so many bytes, or else not so many words, and nothing changes; or a frame is wrong, and those before it
-- are taken
abbrev pub RefusesOpenPiece : GuestTrace → ℕ → List ℕ → Lent → Lent → OpenRefusal → Type 0
RefusesOpenPiece trace stop piece old new refusals.MemoryLength =
    (length old.memory ≢ memory_length trace) × (new ≡ old)
RefusesOpenPiece trace stop piece old new refusals.PageCount = (length old.memory ≡ memory_length trace)
    × ((length old.last ≢ trace.pages) ⊎ (length old.greatest ≢ trace.pages)) × (new ≡ old)
RefusesOpenPiece trace stop piece old new (refusals.Frame found) = (found.fault.cause ≢ Refused Short)
    × FitsGuest trace old
    × StopsAt trace (known_by trace stop old.last old.greatest) (known_by trace stop new.last new.greatest) piece found
RefusesOpenPiece trace stop piece old new (refusals.Page found) = ⊥

-- there are not so many words, or this is the first page that is not at its version at the stop
abbrev pub RefusesOpenPages : GuestTrace → ℕ → List ℕ → OpenRefusal → Type 0
RefusesOpenPages trace stop greatest refusals.MemoryLength = ⊥
RefusesOpenPages trace stop greatest refusals.PageCount = length greatest ≢ trace.pages
RefusesOpenPages trace stop greatest (refusals.Frame found) = ⊥
RefusesOpenPages trace stop greatest (refusals.Page found) = (length greatest ≡ trace.pages)
    × IsFirstBehind trace stop (stamps_in greatest) found

abbrev pub number_of_open : OpenRefusal → ℕ
number_of_open refusals.MemoryLength = 63
number_of_open refusals.PageCount = 64
number_of_open (refusals.Frame found) = number_of_cause found.fault.cause
number_of_open (refusals.Page found) = number_of_stamp found.stamp

-- what C is told of what is wrong
abbrev pub found_in_open : PieceProgress → OpenRefusal → StreamFinding → StreamFinding
found_in_open at refusals.MemoryLength old = old
found_in_open at refusals.PageCount old = old
found_in_open at (refusals.Frame found) old = piece_finding at found
found_in_open at (refusals.Page found) old = page_finding found
