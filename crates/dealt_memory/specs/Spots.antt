-- Copies of the writes to a piece of memory. This project's own.
use Rattle.std.specs.Prelude.{◌≡◌, ℕ, List, [], ◌∷◌, drop, length, take}
use Rattle.std.specs.List.{All, sum_by}
use Rattle.migration_model.specs.Trace.{GuestWrite, IsGuestSize, IsGuestWrite, write_with}
use Rattle.dealt_memory.specs.declared.piece_writes.Spot.{Spot}

-- the writes of spots whose bytes follow one another
abbrev pub spotted : List Spot → List ℕ → List GuestWrite
spotted [] bytes = []
spotted (spot ∷ spots) bytes = write_with 0 spot.page spot.offset (take spot.length bytes)
    ∷ spotted spots (drop spot.length bytes)

-- how many bytes they have together
abbrev pub length_of : List Spot → ℕ
length_of spots = sum_by (λ spot. spot.length) spots

-- the bytes are those of the spots, and each write is one that so many pages of 2 ^ shift bytes may have
pub record HoldsWrites (shift pages : ℕ) (spots : List Spot) (bytes : List ℕ) : Type 0 where
  pub all : length_of spots ≡ length bytes
  pub fit : All (IsGuestWrite 2 shift pages) (spotted spots bytes)
