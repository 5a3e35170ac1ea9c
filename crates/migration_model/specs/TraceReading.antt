-- The bytes at the front, read as a write of a trace, whether or not one was written there.
use Rattle.std.specs.Prelude.{ℕ, zero, suc, ◌+◌, List, [], ◌∷◌, take, drop}
use Rattle.std.specs.Int.{w16, w32, w64}
use Rattle.migration_model.specs.Numbers.{number_in}
use Rattle.migration_model.specs.Trace.{GuestWrite}

abbrev pub tick_in : List ℕ → ℕ
tick_in bytes = number_in w64 bytes

abbrev pub page_in : List ℕ → ℕ
page_in bytes = number_in w32 (drop 8 bytes)

abbrev pub offset_in : List ℕ → ℕ
offset_in bytes = number_in w16 (drop 12 bytes)

abbrev pub length_in : List ℕ → ℕ
length_in bytes = number_in w16 (drop 14 bytes)

-- the write at the front of these bytes
unfoldable pub write_in : List ℕ → GuestWrite
write_in bytes = record {
  tick = tick_in bytes;
  page = page_in bytes;
  offset = offset_in bytes;
  bytes = take (length_in bytes) (drop 16 bytes);
}

-- the bytes after the write at the front
unfoldable pub rest_after : List ℕ → List ℕ
rest_after bytes = drop (16 + length_in bytes) bytes

-- a given number of writes from the front on, one after another
abbrev pub writes_in : ℕ → List ℕ → List GuestWrite
writes_in zero bytes = []
writes_in (suc n) bytes = write_in bytes ∷ writes_in n (rest_after bytes)

-- the bytes after a given number of writes
abbrev pub rest_of : ℕ → List ℕ → List ℕ
rest_of zero bytes = bytes
rest_of (suc n) bytes = rest_of n (rest_after bytes)
