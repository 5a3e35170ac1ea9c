-- Why bytes are refused as a trace: the first cause in them. This project's own.
use Rattle.std.specs.Prelude.{◌≡◌, ◌<◌, ◌≤◌, ℕ, ◌+◌, ◌^◌, ◌==◌, ◌&&◌, ◌⊎◌, nat_lt, nat_le, not, Bool, if◌then◌else◌}
use Rattle.std.specs.Prelude.{List, ◌∷◌, ◌++◌, length, drop, slice_index, Option, Some, None}
use Rattle.std.specs.Int.{w32}
use Rattle.std.specs.List.{flat_map}
use Rattle.migration_model.specs.Numbers.{number_in}
use Rattle.migration_model.specs.Trace.{GuestWrite, GuestTrace, IsGuestSize, AreGuestWrites, last_tick, header_text}
use Rattle.migration_model.specs.Trace.{write_text, trace_text}
use Rattle.migration_model.specs.TraceReading.{tick_in, page_in, offset_in, length_in}
use Rattle.trace_codec.specs.declared.error.TraceError.{TraceError}
use Rattle.trace_codec.specs.declared.error.TraceError.TheVariants.{TooLong, ShortHeader, BadMagic, BadVersion}
use Rattle.trace_codec.specs.declared.error.TraceError.TheVariants.{BadShift, BadReserved, BadPages, TooManyWrites}
use Rattle.trace_codec.specs.declared.error.TraceError.TheVariants.{ShortRecord, TickOrder, TickTooLarge}
use Rattle.trace_codec.specs.declared.error.TraceError.TheVariants.{PageOutOfRange, EmptyWrite, OutOfPage}
use Rattle.trace_codec.specs.declared.error.TraceError.TheVariants.{TrailingBytes, Memory}

-- the bytes begin with "PCWT"
abbrev pub is_magic : List ℕ → Bool
is_magic bytes = (slice_index bytes 0 == 80) && (slice_index bytes 1 == 67) && (slice_index bytes 2 == 87)
    && (slice_index bytes 3 == 84)

-- the versions of the format, and the sizes that a guest may have
abbrev pub is_version : ℕ → Bool
is_version version = nat_le 1 version && nat_le version 2

abbrev pub is_shift : ℕ → Bool
is_shift shift = nat_le 4 shift && nat_le shift 12

abbrev pub is_page_count : ℕ → Bool
is_page_count pages = nat_le 1 pages && nat_le pages 65_536

-- what the first 16 bytes are refused for
abbrev pub header_refusal : List ℕ → Option TraceError
header_refusal bytes =
    if nat_lt (2 ^ 28) (length bytes) then Some TooLong
    else (if nat_lt (length bytes) 16 then Some ShortHeader
    else (if not (is_magic bytes) then Some BadMagic
    else (if not (is_version (slice_index bytes 4)) then Some BadVersion
    else (if not (is_shift (slice_index bytes 5)) then Some BadShift
    else (if not ((slice_index bytes 6 == 0) && (slice_index bytes 7 == 0)) then Some BadReserved
    else (if not (is_page_count (number_in w32 (drop 8 bytes))) then Some BadPages
    else (if nat_lt (2 ^ 20) (number_in w32 (drop 12 bytes)) then Some TooManyWrites
    else None)))))))

-- a write of no bytes that is no release: in version 2, one from the page's start on releases its page
abbrev pub is_empty_write : ℕ → ℕ → ℕ → Bool
is_empty_write version offset len = (len == 0) && not ((version == 2) && (offset == 0))

-- what the write at the front is refused for: write i of a guest of this size, the previous one at this tick
abbrev pub write_refusal : ℕ → ℕ → ℕ → ℕ → ℕ → List ℕ → Option TraceError
write_refusal version shift pages before i bytes =
    if nat_lt (length bytes) 16 then Some (ShortRecord i)
    else (if nat_lt (length bytes) (16 + length_in bytes) then Some (ShortRecord i)
    else (if nat_lt (tick_in bytes) before then Some (TickOrder i)
    else (if nat_le (2 ^ 40) (tick_in bytes) then Some (TickTooLarge i)
    else (if nat_le pages (page_in bytes) then Some (PageOutOfRange i)
    else (if is_empty_write version (offset_in bytes) (length_in bytes) then Some (EmptyWrite i)
    else (if nat_lt (2 ^ shift) (offset_in bytes + length_in bytes) then Some (OutOfPage i)
    else None))))))

-- The bytes begin as a trace: with a header that is not refused, and then some writes that may follow one another.
pub record Begins (bytes : List ℕ) : Type 0 where
  pub version : ℕ
  pub shift : ℕ
  pub pages : ℕ
  pub count : ℕ
  pub writes : List GuestWrite
  pub rest : List ℕ
  pub short : length bytes ≤ 2 ^ 28
  pub version_low : 1 ≤ version
  pub version_high : version ≤ 2
  pub size : IsGuestSize shift pages
  pub few : count ≤ 2 ^ 20
  pub fit : AreGuestWrites version shift pages writes
  pub parts : bytes ≡ header_text version shift pages count ++ (flat_map write_text writes ++ rest)

-- The first cause in the bytes: in the header; in a write, all before it being right; or bytes after the last write.
pub data Refuses (bytes : List ℕ) (e : TraceError) : Type 0 where
  in_header : header_refusal bytes ≡ Some e → Refuses bytes e
  in_write : (b : Begins bytes) → length b.writes < b.count
      → write_refusal b.version b.shift b.pages (last_tick b.writes) (length b.writes) b.rest ≡ Some e → Refuses bytes e
  behind : (b : Begins bytes) → length b.writes ≡ b.count → 0 < length b.rest → e ≡ TrailingBytes → Refuses bytes e

-- memory ran out, or that is the cause
abbrev pub RefusesUnlessMemory : List ℕ → TraceError → Type 0
RefusesUnlessMemory bytes e = (e ≡ Memory) ⊎ Refuses bytes e

-- ---- of a trace that is not encoded yet

-- what the version and the sizes of a trace are refused for, with an encoding that is short enough or not
abbrev pub sizes_refusal : Bool → ℕ → ℕ → ℕ → ℕ → Option TraceError
sizes_refusal short version shift pages writes =
    if not short then Some TooLong
    else (if not (is_version version) then Some BadVersion
    else (if not (is_shift shift) then Some BadShift
    else (if not (is_page_count pages) then Some BadPages
    else (if nat_lt (2 ^ 20) writes then Some TooManyWrites
    else None))))

-- the encoding of a trace is no longer than one may be
abbrev pub is_short : GuestTrace → Bool
is_short trace = nat_le (length (trace_text trace)) (2 ^ 28)

-- what a write is refused for: write i of a guest of this size, the previous one at this tick
abbrev pub record_refusal : ℕ → ℕ → ℕ → ℕ → ℕ → GuestWrite → Option TraceError
record_refusal version shift pages before i write =
    if nat_lt write.tick before then Some (TickOrder i)
    else (if nat_le (2 ^ 40) write.tick then Some (TickTooLarge i)
    else (if nat_le pages write.page then Some (PageOutOfRange i)
    else (if is_empty_write version write.offset (length write.bytes) then Some (EmptyWrite i)
    else (if nat_lt (2 ^ shift) (write.offset + length write.bytes) then Some (OutOfPage i)
    else None))))

-- the first write that is refused, all before it being right
pub record RefusesRecord (version shift pages : ℕ) (writes : List GuestWrite) (e : TraceError) : Type 0 where
  pub before : List GuestWrite
  pub write : GuestWrite
  pub after : List GuestWrite
  pub parts : writes ≡ before ++ write ∷ after
  pub fit : AreGuestWrites version shift pages before
  pub refused : record_refusal version shift pages (last_tick before) (length before) write ≡ Some e

-- the first cause in a trace: in its version and sizes, or in a write
pub data RefusesTrace (trace : GuestTrace) (e : TraceError) : Type 0 where
  in_sizes : sizes_refusal (is_short trace) trace.version trace.shift trace.pages (length trace.writes) ≡ Some e
      → RefusesTrace trace e
  in_record : sizes_refusal (is_short trace) trace.version trace.shift trace.pages (length trace.writes) ≡ None
      → RefusesRecord trace.version trace.shift trace.pages trace.writes e → RefusesTrace trace e
