-- Recorded traces of guest writes, and the one encoding of each. The format is this project's own.
use Rattle.std.specs.Prelude.{◌≡◌, ◌⊎◌, ℕ, ◌+◌, ◌^◌, ◌<◌, ◌≤◌, List, [], ◌∷◌, ◌++◌, length}
use Rattle.std.specs.Int.{w16, w32, w64}
use Rattle.std.specs.List.{All, flat_map, fold}
use Rattle.std.specs.List.Sorted.{IsNonDecreasingBy}
use Rattle.migration_model.specs.Numbers.{text_of}

-- One write of the guest: at a tick, these bytes from an offset of a page on. One with no bytes releases its page, as a
-- guest does when it gives memory back to its hypervisor.
pub record GuestWrite : Type 0 where
  pub tick : ℕ
  pub page : ℕ
  pub offset : ℕ
  pub bytes : List ℕ

-- a guest of pages of 2 ^ shift bytes, and its writes in order, in a version of the format
pub record GuestTrace : Type 0 where
  pub version : ℕ
  pub shift : ℕ
  pub pages : ℕ
  pub writes : List GuestWrite

abbrev pub write_with : ℕ → ℕ → ℕ → List ℕ → GuestWrite
write_with tick page offset bytes = record { tick = tick; page = page; offset = offset; bytes = bytes }

abbrev pub trace_with : ℕ → ℕ → ℕ → List GuestWrite → GuestTrace
trace_with version shift pages writes = record { version = version; shift = shift; pages = pages; writes = writes }

-- the sizes that a guest may have
pub record IsGuestSize (shift pages : ℕ) : Type 0 where
  pub shift_low : 4 ≤ shift
  pub shift_high : shift ≤ 12
  pub pages_low : 1 ≤ pages
  pub pages_high : pages ≤ 65_536

-- A write that a guest of this size may make: some bytes, within one of its pages, or, in version 2, none, from the
-- page's start on.
pub record IsGuestWrite (version shift pages : ℕ) (write : GuestWrite) : Type 0 where
  pub tick : write.tick < 2 ^ 40
  pub page : write.page < pages
  pub some : (1 ≤ length write.bytes) ⊎ ((version ≡ 2) × (write.offset ≡ 0))
  pub within : write.offset + length write.bytes ≤ 2 ^ shift

-- writes of such a guest in order: no tick is below a previous one
pub record AreGuestWrites (version shift pages : ℕ) (writes : List GuestWrite) : Type 0 where
  pub each : All (IsGuestWrite version shift pages) writes
  pub in_order : IsNonDecreasingBy (λ write. write.tick) writes

-- the number of the last of a list, or 0 if there is none
abbrev pub last_by : {X : Type 0} → (X → ℕ) → List X → ℕ
last_by number xs = fold (λ last x. number x) 0 xs

-- the tick of the last write, or 0 if there is none
abbrev pub last_tick : List GuestWrite → ℕ
last_tick writes = last_by (λ write. write.tick) writes

-- the encoding of a write: tick, page, offset and length, and then its bytes
unfoldable pub write_text : GuestWrite → List ℕ
write_text write = text_of w64 write.tick ++ (text_of w32 write.page ++ (text_of w16 write.offset
    ++ (text_of w16 (length write.bytes) ++ write.bytes)))

-- the first bytes of each trace: "PCWT"
abbrev pub magic : List ℕ
magic = 80 ∷ 67 ∷ 87 ∷ 84 ∷ []

-- the header of a trace: those bytes, the version, the shift, two bytes 0, and how many pages and writes there are
unfoldable pub header_text : ℕ → ℕ → ℕ → ℕ → List ℕ
header_text version shift pages writes = magic ++ version ∷ shift ∷ 0 ∷ 0 ∷ (text_of w32 pages ++ text_of w32 writes)

unfoldable pub trace_text : GuestTrace → List ℕ
trace_text trace = header_text trace.version trace.shift trace.pages (length trace.writes) ++ flat_map
    write_text trace.writes

-- what a trace may be: version, sizes, writes and length within the limits of the format
pub record IsTrace (trace : GuestTrace) : Type 0 where
  pub version_low : 1 ≤ trace.version
  pub version_high : trace.version ≤ 2
  pub size : IsGuestSize trace.shift trace.pages
  pub count : length trace.writes ≤ 2 ^ 20
  pub writes : AreGuestWrites trace.version trace.shift trace.pages trace.writes
  pub short : length (trace_text trace) ≤ 2 ^ 28

-- these bytes are the encoding of this trace
pub record Spells (bytes : List ℕ) (trace : GuestTrace) : Type 0 where
  pub is_trace : IsTrace trace
  pub text : bytes ≡ trace_text trace
