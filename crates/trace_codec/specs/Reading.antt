-- Bytes read as writes, one after another.
use Rattle.std.specs.Prelude.{◌≡◌, ◌≤◌, ◌<◌, ◌⊎◌, ℕ, zero, suc, ◌+◌, List, [], drop, length, slice_index, Option, Some, None}
use Rattle.std.specs.List.{All}
use Rattle.std.specs.Int.{w32}
use Rattle.migration_model.specs.Numbers.{IsBytes, number_in}
use Rattle.migration_model.specs.Trace.{AreGuestWrites, GuestWrite, last_tick, trace_with, IsTrace}
use Rattle.migration_model.specs.TraceReading.{length_in, rest_after, writes_in, rest_of}
use Rattle.trace_codec.specs.Refusals.{header_refusal, write_refusal}
use Rattle.trace_codec.specs.declared.error.TraceError.{TraceError}
use Rattle.trace_codec.specs.declared.error.TraceError.TheVariants.{TrailingBytes}

-- the bytes hold this many writes, each of them whole
abbrev pub HoldsWrites : ℕ → List ℕ → Type 0
HoldsWrites zero bytes = Unit {0}
HoldsWrites (suc n) bytes = (16 + length_in bytes ≤ length bytes) × HoldsWrites n (rest_after bytes)

-- the first n writes in the bytes are right, the last of them at this tick, and `rest` is the bytes after them
pub record ReadsTo (version shift pages n : ℕ) (bytes : List ℕ) (last : ℕ) (rest : List ℕ) : Type 0 where
  pub holds : HoldsWrites n bytes
  pub fit : AreGuestWrites version shift pages (writes_in n bytes)
  pub last_is : last ≡ last_tick (writes_in n bytes)
  pub below : All (λ write. write.tick ≤ last) (writes_in n bytes)
  pub rest_is : rest ≡ rest_of n bytes

-- `count` writes are in the bytes, all of them right, and nothing else
pub record IsBody (version shift pages count : ℕ) (bytes : List ℕ) : Type 0 where
  pub holds : HoldsWrites count bytes
  pub fit : AreGuestWrites version shift pages (writes_in count bytes)
  pub all : rest_of count bytes ≡ []

-- the first cause why the bytes are not `count` right writes
abbrev pub RefusesBody : ℕ → ℕ → ℕ → ℕ → List ℕ → TraceError → Type 0
RefusesBody version shift pages count bytes e =
    ((n : ℕ) × (last : ℕ) × (rest : List ℕ) × (n < count) × ReadsTo version shift pages n bytes last rest
    × (write_refusal version shift pages last n rest ≡ Some e))
    ⊎ ((last : ℕ) × (rest : List ℕ) × ReadsTo version shift pages count bytes last rest × (0 < length rest)
    × (e ≡ TrailingBytes))

-- the version and the sizes in the first 16 bytes, and the bytes after them
pub record IsCut (bytes : List ℕ) (version shift pages count : ℕ) (body : List ℕ) : Type 0 where
  pub fits : IsBytes bytes
  pub header : header_refusal bytes ≡ None
  pub version_is : version ≡ slice_index bytes 4
  pub shift_is : shift ≡ slice_index bytes 5
  pub pages_is : pages ≡ number_in w32 (drop 8 bytes)
  pub count_is : count ≡ number_in w32 (drop 12 bytes)
  pub body_is : body ≡ drop 16 bytes

-- what a trace that is read in place keeps: it is a trace, and the bytes hold its writes
pub record IsView (version shift pages count : ℕ) (bytes : List ℕ) : Type 0 where
  pub is_trace : IsTrace (trace_with version shift pages (writes_in count bytes))
  pub holds : HoldsWrites count bytes

-- a reader on its way: all of the bytes, the version and the sizes in their header, and the writes that were read
pub record ReaderState : Type 0 where
  pub bytes : List ℕ
  pub version : ℕ
  pub shift : ℕ
  pub pages : ℕ
  pub count : ℕ
  pub writes : List GuestWrite

abbrev pub reader_state : List ℕ → ℕ → ℕ → ℕ → ℕ → List GuestWrite → ReaderState
reader_state bytes version shift pages count writes =
    record { bytes = bytes; version = version; shift = shift; pages = pages; count = count; writes = writes }

-- the bytes that a reader has not read yet
abbrev pub rest_at : ReaderState → List ℕ
rest_at state = rest_of (length state.writes) (drop 16 state.bytes)

-- what the write there is refused for
abbrev pub refusal_at : ReaderState → Option TraceError
refusal_at state =
    write_refusal state.version state.shift state.pages (last_tick state.writes) (length state.writes) (rest_at state)

-- a reader of these bytes that has read no write
abbrev pub reader_of : List ℕ → ReaderState
reader_of bytes = reader_state bytes (slice_index bytes 4) (slice_index bytes 5) (number_in w32 (drop 8 bytes))
    (number_in w32 (drop 12 bytes)) []

-- what a reader keeps: the header is right, and so are the first n writes
pub record IsReading (bytes : List ℕ) (version shift pages count n last : ℕ) (rest : List ℕ) : Type 0 where
  pub cut : IsCut bytes version shift pages count (drop 16 bytes)
  pub reads : ReadsTo version shift pages n (drop 16 bytes) last rest
  pub few : n ≤ count
