-- A page as its own writes make it.
use Rattle.std.specs.Prelude.{◌≡◌, ◌≤◌, ℕ, ◌+◌, ◌-◌, ◌^◌, List, drop, fold, length, replicate, slice_index_or}
use Rattle.migration_model.specs.Trace.{GuestWrite, GuestTrace}
use Rattle.migration_model.specs.Memory.{bytes_put, put}
use Rattle.guest_log.specs.Writes.{no_write}

-- the write at a place
abbrev pub write_at : List GuestWrite → ℕ → GuestWrite
write_at writes place = slice_index_or writes (place - 1) no_write

-- a page of 2 ^ shift bytes after one more write to it
abbrev pub overwrite : ℕ → List ℕ → GuestWrite → List ℕ
overwrite shift bytes write = put bytes write.offset (bytes_put shift write)

-- a page after the writes at these places, one after the other
abbrev pub put_all : GuestTrace → List ℕ → List ℕ → List ℕ
put_all trace bytes places = fold (λ bytes place. overwrite trace.shift bytes
    (write_at trace.writes place)) bytes places

-- the bytes of a write stay within its page
abbrev pub PutsWithin : ℕ → GuestWrite → Type 0
PutsWithin shift write = write.offset + length (bytes_put shift write) ≤ 2 ^ shift

-- the first `count` of these writes to a page make no difference to the result of all of them
abbrev pub IsLost : GuestTrace → ℕ → List ℕ → Type 0
IsLost trace count places = (bytes : List ℕ) → length bytes ≡ 2 ^ trace.shift → put_all trace bytes (drop count places)
    ≡ put_all trace bytes places

-- zeros, and then the writes at these places
abbrev pub bytes_by : GuestTrace → List ℕ → List ℕ
bytes_by trace places = put_all trace (replicate (2 ^ trace.shift) 0) places
