-- Pieces of memory, which are made side by side.
use Rattle.std.specs.Prelude.{◌≡◌, ◌+◌, ◌*◌, ◌^◌, ◌<◌, ◌≤◌, ℕ, List, length, vec_capacity, slice_index_or}
use Rattle.std.specs.List.{between}
use Rattle.migration_model.specs.Memory.{GuestMemory}
use Rattle.byte_sinks.specs.declared.making.Piece.{Piece}

-- a piece has room for its bytes, and its buffer is as long as a page
abbrev pub HasRoom : ℕ → Piece → Type 0
HasRoom shift piece = (length piece.page.items ≡ 2 ^ shift) × (2 ^ 18 ≤ vec_capacity piece.bytes)

-- the piece of this number: the bytes from its place on, as many as a piece has, or fewer if memory ends before
abbrev pub piece_of : GuestMemory → ℕ → List ℕ
piece_of memory number = between (number * 2 ^ 18) ((number + 1) * 2 ^ 18) memory.bytes

-- the byte at which a piece begins, if they are counted from this one on
abbrev pub start_from : ℕ → ℕ → ℕ
start_from first number = (first + number) * 2 ^ 18

-- the pieces hold what lies between these places of some bytes, one piece after the other
abbrev pub AreCuts : (ℕ → ℕ) → List ℕ → List Piece → Type 0
AreCuts starts bytes pieces =
    ((i : ℕ) → (starts 0 ≤ starts i) × (starts i ≤ starts (i + 1)))
    × ((i : ℕ) (d : Piece) → i < length pieces
    → (slice_index_or pieces i d).bytes.items ≡ between (starts i) (starts (i + 1)) bytes)
