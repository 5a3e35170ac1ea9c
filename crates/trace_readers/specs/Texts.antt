-- The offsets of the records of a trace in its bytes.
use Rattle.std.specs.Prelude.{◌≡◌, ◌<◌, ◌≤◌, ℕ, List, drop, length, slice_index_or, take}
use Rattle.migration_model.specs.Trace.{GuestTrace, trace_with}
use Rattle.migration_model.specs.TraceReading.{rest_of, writes_in}
use Rattle.trace_codec.specs.Reading.{IsReading, IsView}
use Rattle.trace_readers.specs.declared.front_records.FrontRecords.{FrontRecords}

-- the trace whose `count` writes follow the header in these bytes
abbrev pub held_trace : ℕ → ℕ → ℕ → ℕ → List ℕ → GuestTrace
held_trace version shift pages count bytes = trace_with version shift pages (writes_in count (drop 16 bytes))

-- the offsets of the first `count` records of a trace: at each of them begin the bytes after the previous records
pub record ArePositions (bytes : List ℕ) (count : ℕ) (positions : List ℕ) : Type 0 where
  pub count_is : length positions ≡ count
  pub stands : (n d : ℕ) → n < count → drop (slice_index_or positions n d) bytes ≡ rest_of n (drop 16 bytes)

-- what a trace that is held as its bytes keeps: the bytes hold its writes after the header, and these are the offsets
-- of all
pub record IsHeldText (version shift pages count : ℕ) (bytes positions : List ℕ) : Type 0 where
  pub is_view : IsView version shift pages count (drop 16 bytes)
  pub are_positions : ArePositions bytes count positions

-- the first records of these bytes are right, the last of them at its last tick: these are their offsets, and there
-- they end
pub record IsTested (text : List ℕ) (front : FrontRecords) : Type 0 where
  pub reads : IsReading text front.header.version front.header.shape.shift front.header.shape.pages
      front.header.shape.writes (length front.positions.items) front.last (drop front.end text)
  pub found : ArePositions text (length front.positions.items) front.positions.items
  pub within : front.end ≤ length text

-- the first records of a front of these bytes were right, when that front was all that had come
abbrev pub IsTestedBefore : List ℕ → FrontRecords → Type 0
IsTestedBefore text front = (n : ℕ) × IsTested (take n text) front
