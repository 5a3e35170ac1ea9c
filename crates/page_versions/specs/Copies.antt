-- Copies of a trace's writes by page, without ticks and pages, and pages made from them. This project's own, as
-- versions are.
use Rattle.std.specs.Prelude.{◌≡◌, ℕ, ◌+◌, ◌<◌, ◌≤◌, ◌*◌, ◌&&◌, [], Bool, IfSome, List, Option, fold, length, map}
use Rattle.std.specs.Prelude.{nat_le, slice_index_or}
use Rattle.std.specs.List.{All, between, range_with_len}
use Rattle.migration_model.specs.Trace.{GuestTrace, GuestWrite, write_with}
use Rattle.migration_model.specs.Versions.{page_at}
use Rattle.page_versions.specs.Index.{GuestIndex, IsIndexOf, places_of}
use Rattle.page_versions.specs.Pages.{overwrite, write_at}
use Rattle.page_versions.specs.declared.page_writes.Spot.{Spot}

-- a write without its tick and page
abbrev pub bare : ℕ → List ℕ → GuestWrite
bare offset bytes = write_with 0 0 offset bytes

-- the copy of a trace's write at a place
abbrev pub copy_of : GuestTrace → ℕ → GuestWrite
copy_of trace place = bare (write_at trace.writes place).offset (write_at trace.writes place).bytes

-- the copies of `count` pages' writes from a page on, page by page
abbrev pub copies_of : GuestTrace → ℕ → ℕ → List (List GuestWrite)
copies_of trace from count = map (λ page. map (copy_of trace) (places_of trace page)) (range_with_len from count)

-- a page of 2 ^ shift bytes after these writes, one after the other
abbrev pub put_copies : ℕ → List ℕ → List GuestWrite → List ℕ
put_copies shift bytes writes = fold (overwrite shift) bytes writes

-- a page's bytes at a version
pub record PageCheckpoint : Type 0 where
  pub version : ℕ
  pub bytes : List ℕ

abbrev pub IsCheckpoint : GuestTrace → ℕ → PageCheckpoint → Type 0
IsCheckpoint trace page checkpoint = (checkpoint.version ≤ length trace.writes)
    × (checkpoint.bytes ≡ page_at trace page checkpoint.version)

-- for each page its writes, and its bytes at some versions
pub record GuestPack : Type 0 where
  pub pages : List (List GuestWrite)
  pub checkpoints : List (List PageCheckpoint)

abbrev pub pack_with : List (List GuestWrite) → List (List PageCheckpoint) → GuestPack
pack_with pages checkpoints = record { pages = pages; checkpoints = checkpoints }

-- the writes are the trace's, in order, and the bytes are those that its pages have at these versions
pub record IsPackOf (pack : GuestPack) (trace : GuestTrace) : Type 0 where
  pub len : length pack.pages ≡ trace.pages
  pub each : (page : ℕ) → page < trace.pages → slice_index_or pack.pages page [] ≡ map (copy_of trace)
      (places_of trace page)
  pub made : (page : ℕ) → page < trace.pages → All (IsCheckpoint trace page) (slice_index_or pack.checkpoints page [])

-- an index of the trace, and its packed writes, if there are any
abbrev pub ArePagesOf : GuestIndex → Option GuestPack → GuestTrace → Type 0
ArePagesOf index packed trace = IsIndexOf index trace × IfSome packed (λ pack. IsPackOf pack trace)

-- the write of a spot, whose bytes stand among these
abbrev pub write_in : List ℕ → Spot → GuestWrite
write_in bytes spot = bare spot.offset (between spot.start (spot.start + spot.length) bytes)

abbrev pub IsWithin : List ℕ → Spot → Type 0
IsWithin bytes spot = spot.start + spot.length ≤ length bytes

-- at most 32 bytes a write, on average
abbrev pub are_short_in : List GuestWrite → Bool
are_short_in writes = nat_le (fold (λ sum write. sum + length write.bytes) 0 writes) (32 * length writes)

-- short writes, at most 256 a page on average
abbrev pub are_worth_copies : GuestTrace → Bool
are_worth_copies trace = nat_le (length trace.writes) (256 * trace.pages) && are_short_in trace.writes
