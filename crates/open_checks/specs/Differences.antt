-- The first byte of memory that is not as the first writes of a trace leave it. This project's own.
use Rattle.std.specs.Prelude.{◌≡◌, ◌≢◌, ◌⊎◌, ◌<◌, ◌≤◌, ◌+◌, ◌*◌, ◌^◌, ℕ, List, length, slice_index}
use Rattle.migration_model.specs.Memory.{bytes_put, image_after}
use Rattle.migration_model.specs.Trace.{GuestTrace, GuestWrite}
use Rattle.page_versions.specs.Index.{version_after}
use Rattle.page_versions.specs.Pages.{write_at}
use Rattle.stream_check.specs.Ends.{tick_of_place}
use Rattle.open_checks.specs.declared.differences.WrongByte.{WrongByte}

-- a write writes this byte of memory
pub record WritesByte (shift byte : ℕ) (write : GuestWrite) : Type 0 where
  pub begins : write.page * 2 ^ shift + write.offset ≤ byte
  pub ends : byte < write.page * 2 ^ shift + write.offset + length (bytes_put shift write)

-- the place of the last of the first `count` writes that writes this byte, or 0 if none does
pub record IsLastTo (trace : GuestTrace) (count byte place : ℕ) : Type 0 where
  pub early : place ≤ count
  pub within : place ≤ length trace.writes
  pub own : (place ≡ 0) ⊎ WritesByte trace.shift byte (write_at trace.writes place)
  pub last : (other : ℕ) → place < other → other ≤ count → other ≤ length trace.writes
      → ¬ WritesByte trace.shift byte (write_at trace.writes other)

-- The first byte of memory that is not that after the first `count` writes; its page, and the version of that; and the
-- last of these writes that writes the byte.
pub record IsFirstWrongByte (trace : GuestTrace) (count : ℕ) (memory : List ℕ) (found : WrongByte) : Type 0 where
  pub within : found.offset < length memory
  pub first : (byte : ℕ) → byte < found.offset
      → slice_index memory byte ≡ slice_index (image_after trace count).bytes byte
  pub wrong : slice_index memory found.offset ≢ slice_index (image_after trace count).bytes found.offset
  pub page_begins : found.page * 2 ^ trace.shift ≤ found.offset
  pub page_ends : found.offset < found.page * 2 ^ trace.shift + 2 ^ trace.shift
  pub version : found.version ≡ version_after trace found.page count
  pub place : IsLastTo trace count found.offset found.place
  pub tick : found.tick ≡ tick_of_place trace found.place
