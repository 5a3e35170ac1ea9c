-- The writes of a trace, handed to a visitor while the bytes of the trace come.
use Rattle.std.specs.Prelude.{◌≡◌, ◌≤◌, ◌^◌, ℕ, List, length, drop, Option}
use Rattle.migration_model.specs.Numbers.{IsBytes}
use Rattle.migration_model.specs.Trace.{GuestTrace, GuestWrite, IsGuestWrite, IsTrace}
use Rattle.migration_model.specs.TraceReading.{writes_in}
use Rattle.guest_log.specs.declared.shape.Header.{Header}
use Rattle.trace_codec.specs.Reading.{IsCut, IsReading}
use Rattle.trace_codec.specs.Source.{SourceSpells}
use Rattle.trace_readers.specs.Pieces.{CameAs, PiecesState}
use Rattle.trace_readers.specs.declared.visiting.Taken.{Taken}

-- a visitor can be given each write that a trace with this header may have
abbrev pub CanVisit : (GuestWrite → Type 0) → Header → Type 0
CanVisit takes header = (write : GuestWrite)
    → IsGuestWrite header.version header.shape.shift header.shape.pages write → takes write

-- these bytes begin with this header
abbrev pub IsHeaderOf : List ℕ → Header → Type 0
IsHeaderOf text header = IsCut text header.version header.shape.shift header.shape.pages header.shape.writes
    (drop 16 text)

-- the visitor is made of the first writes of these bytes, and `rest` is the bytes after them
pub record IsVisited (made_of : List GuestWrite → Type 0) (text : List ℕ) (taken : Taken) (rest : List ℕ) : Type 0 where
  pub reads : IsReading text taken.header.version taken.header.shape.shift taken.header.shape.pages
      taken.header.shape.writes taken.count taken.last rest
  pub made : made_of (writes_in taken.count (drop 16 text))

-- the visitor is made of the writes that came, unless they are longer than a trace may be
pub record IsVisiting (made_of : List GuestWrite → Type 0) (old new : Option (List ℕ)) (taken : Taken)
    (pieces : PiecesState) : Type 0 where
  pub text : List ℕ
  pub came : CameAs old new pieces.count text
  pub fits : IsBytes text
  pub visited : length text ≤ 2 ^ 28 → IsVisited made_of text taken pieces.rest

-- what the source holds is a trace with this header, and the visitor is made of all its writes
pub record IsAllVisited (made_of : List GuestWrite → Type 0) (old : Option (List ℕ)) (header : Header) : Type 0 where
  pub trace : GuestTrace
  pub version : trace.version ≡ header.version
  pub shift : trace.shift ≡ header.shape.shift
  pub pages : trace.pages ≡ header.shape.pages
  pub count : length trace.writes ≡ header.shape.writes
  pub is_trace : IsTrace trace
  pub held : SourceSpells old trace
  pub made : made_of trace.writes
