-- Memory as the pieces that follow one another in it. This project's own.
use Rattle.std.specs.Prelude.{◌≡◌, ◌<◌, ◌≤◌, ℕ, ◌-◌, ◌*◌, ◌^◌, List, length, min, slice_index_or}
use Rattle.std.specs.List.{flat_map}
use Rattle.migration_model.specs.Memory.{GuestMemory, memory_with}

-- the memory of so many pages of 2 ^ shift bytes that pieces make
abbrev pub joined : ℕ → ℕ → List GuestMemory → GuestMemory
joined shift pages pieces = memory_with shift pages (flat_map (λ piece. piece.bytes) pieces)

-- the piece of this number in such memory: it has 2 ^ 18 bytes, or fewer, but some, if memory ends before
pub record IsPiece (shift pages number : ℕ) (piece : GuestMemory) : Type 0 where
  pub shift_is : piece.shift ≡ shift
  pub some : 1 ≤ piece.pages
  pub pages_is : piece.pages ≡ min (2 ^ (18 - shift)) (pages - number * 2 ^ (18 - shift))
  pub len : length piece.bytes ≡ piece.pages * 2 ^ shift

-- all pieces of such memory, in order
pub record ArePieces (shift pages : ℕ) (pieces : List GuestMemory) : Type 0 where
  pub all : pages ≤ length pieces * 2 ^ (18 - shift)
  pub each : (number : ℕ) (d : GuestMemory) → number < length pieces
      → IsPiece shift pages number (slice_index_or pieces number d)
