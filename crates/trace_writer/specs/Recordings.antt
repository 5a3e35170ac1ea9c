-- A trace of version 2 that is written into lent bytes, write after write. This project's own.
use Rattle.std.specs.Prelude.{◌≡◌, ℕ, ◌+◌, ◌^◌, ◌<◌, ◌==◌, nat_le, nat_lt, if◌then◌else◌, List, [], ◌∷◌, ◌++◌, length, take}
use Rattle.std.specs.Prelude.{Option, Some, None}
use Rattle.std.specs.Int.{w32}
use Rattle.migration_model.specs.Memory.{put}
use Rattle.migration_model.specs.Numbers.{text_of}
use Rattle.migration_model.specs.Trace.{GuestWrite, GuestTrace, IsTrace, Spells, header_text, last_tick, trace_text}
use Rattle.migration_model.specs.Trace.{trace_with, write_text}
use Rattle.trace_codec.specs.Refusals.{RefusesTrace, record_refusal, sizes_refusal}
use Rattle.trace_codec.specs.declared.error.TraceError.{TraceError}
use Rattle.trace_codec.specs.declared.error.TraceError.TheVariants.{EmptyWrite}
use Rattle.trace_writer.specs.declared.error.RecordingError.{RecordingError}
use Rattle.trace_writer.specs.declared.error.RecordingError.TheVariants as errors
use Rattle.trace_writer.specs.declared.recording.Recording.{Recording}

-- a trace of a guest that has not written
abbrev pub no_writes : ℕ → ℕ → GuestTrace
no_writes shift pages = trace_with 2 shift pages []

-- the trace with one more write at its end
abbrev pub with_write : GuestTrace → GuestWrite → GuestTrace
with_write trace write = trace_with trace.version trace.shift trace.pages (trace.writes ++ write ∷ [])

-- the recording tells how far this trace is
pub record Tells (recording : Recording) (trace : GuestTrace) : Type 0 where
  pub is_trace : IsTrace trace
  pub version_is : trace.version ≡ 2
  pub shift_is : recording.shift ≡ trace.shift
  pub pages_are : recording.pages ≡ trace.pages
  pub writes_are : recording.writes ≡ length trace.writes
  pub tick_is : recording.last_tick ≡ last_tick trace.writes
  pub size_is : recording.length ≡ length (trace_text trace)

-- and the bytes begin with the trace
pub record Records (bytes : List ℕ) (recording : Recording) (trace : GuestTrace) : Type 0 where
  pub tells : Tells recording trace
  pub spells : Spells (take recording.length bytes) trace

-- why a trace does not go into so many bytes: the first cause why it is none, or, of a trace, that it is longer
abbrev pub RefusesRecording : GuestTrace → ℕ → RecordingError → Type 0
RefusesRecording trace room (errors.Trace e) = RefusesTrace trace e
RefusesRecording trace room errors.ShortBuffer = IsTrace trace × (room < length (trace_text trace))

-- ---- what calls do with any recording, also one that tells of no trace

-- what is refused first: that, or else that the encoding ends behind the room
abbrev pub refusal_in : Option TraceError → ℕ → ℕ → Option RecordingError
refusal_in (Some e) room end = Some (errors.Trace e)
refusal_in None room end = if nat_lt room end then Some errors.ShortBuffer else None

-- what a trace that is begun is refused for
abbrev pub refusal_of_begin : ℕ → ℕ → ℕ → Option RecordingError
refusal_of_begin shift pages room = refusal_in (sizes_refusal (nat_le 16 (2 ^ 28)) 2 shift pages 0) room 16

abbrev pub first_of : Option TraceError → Option TraceError → Option TraceError
first_of (Some e) other = Some e
first_of None other = other

-- where the encoding ends after one more write
abbrev pub end_after : Recording → GuestWrite → ℕ
end_after recording write = recording.length + (16 + length write.bytes)

-- what a trace with one more write is refused for, whose encoding ends there
abbrev pub refusal_of_trace : Recording → ℕ → GuestWrite → Option TraceError
refusal_of_trace recording end write =
    first_of (sizes_refusal (nat_le end (2 ^ 28)) 2 recording.shift recording.pages (recording.writes + 1))
    (record_refusal 2 recording.shift recording.pages recording.last_tick recording.writes write)

-- what a write or a release is refused for
abbrev pub refusal_of_any : Recording → ℕ → GuestWrite → Option RecordingError
refusal_of_any recording room write =
    refusal_in (refusal_of_trace recording (end_after recording write) write) room (end_after recording write)

-- what a write is refused for, which is no release: of no bytes before all else
abbrev pub refusal_of_write : Recording → ℕ → GuestWrite → Option RecordingError
refusal_of_write recording room write =
    if length write.bytes == 0 then Some (errors.Trace (EmptyWrite recording.writes))
    else refusal_of_any recording room write

-- the recording and the bytes after one more write: its encoding behind the others, and the new count in the header
abbrev pub recording_after : Recording → GuestWrite → Recording
recording_after recording write = record {
  length = end_after recording write;
  last_tick = write.tick;
  writes = recording.writes + 1;
  pages = recording.pages;
  shift = recording.shift;
}

abbrev pub bytes_after : List ℕ → Recording → GuestWrite → List ℕ
bytes_after bytes recording write =
    put (put bytes recording.length (write_text write)) 12 (text_of w32 (recording.writes + 1))

-- the bytes of a trace that is begun
abbrev pub bytes_begun : List ℕ → ℕ → ℕ → List ℕ
bytes_begun bytes shift pages = put bytes 0 (header_text 2 shift pages 0)
