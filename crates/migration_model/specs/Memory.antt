-- A guest's memory as one flat list of bytes, and what writes leave in it. This project's own.
use Rattle.std.specs.Prelude.{◌≡◌, ◌==◌, ℕ, ◌+◌, ◌*◌, ◌^◌, if◌then◌else◌, List, ◌++◌, length, take, drop, replicate}
use Rattle.std.specs.Prelude.{nat_lt}
use Rattle.std.specs.List.{fold, filter, between}
use Rattle.migration_model.specs.Trace.{GuestWrite, GuestTrace, IsGuestSize}

-- the bytes of all pages of 2 ^ shift bytes, page after page
pub record GuestMemory : Type 0 where
  pub shift : ℕ
  pub pages : ℕ
  pub bytes : List ℕ

abbrev pub memory_with : ℕ → ℕ → List ℕ → GuestMemory
memory_with shift pages bytes = record { shift = shift; pages = pages; bytes = bytes }

-- memory of this size is as long as its pages
pub record IsMemory (shift pages : ℕ) (bytes : List ℕ) : Type 0 where
  pub size : IsGuestSize shift pages
  pub len : length bytes ≡ pages * 2 ^ shift

-- memory before any write
abbrev pub zeros : ℕ → ℕ → GuestMemory
zeros shift pages = memory_with shift pages (replicate (pages * 2 ^ shift) 0)

-- a list with some of its bytes replaced, from an offset on
abbrev pub put : List ℕ → ℕ → List ℕ → List ℕ
put memory place bytes = take place memory ++ (bytes ++ drop (place + length bytes) memory)

-- what a write puts in its page: its bytes, or, if it has none, zeros for the whole page, which it releases
abbrev pub bytes_put : ℕ → GuestWrite → List ℕ
bytes_put shift write = if length write.bytes == 0 then replicate (2 ^ shift) 0 else write.bytes

-- memory after one more write: what it puts is at the offset of its page, and all other bytes are left
abbrev pub apply : GuestMemory → GuestWrite → GuestMemory
apply memory write =
    record memory {
      bytes = put memory.bytes (write.page * 2 ^ memory.shift + write.offset) (bytes_put memory.shift write);
    }

-- memory after these writes, in order, to zeros
abbrev pub replay : ℕ → ℕ → List GuestWrite → GuestMemory
replay shift pages writes = fold apply (zeros shift pages) writes

-- memory after all writes of a trace
abbrev pub image_of : GuestTrace → GuestMemory
image_of trace = replay trace.shift trace.pages trace.writes

-- memory after the writes before a tick
abbrev pub image_before : GuestTrace → ℕ → GuestMemory
image_before trace tick = replay trace.shift trace.pages (filter (λ write. nat_lt write.tick tick) trace.writes)

-- memory after the first `count` writes
abbrev pub image_after : GuestTrace → ℕ → GuestMemory
image_after trace count = replay trace.shift trace.pages (take count trace.writes)

-- the bytes of one page
abbrev pub page_of : GuestMemory → ℕ → List ℕ
page_of memory page = between (page * 2 ^ memory.shift) (page * 2 ^ memory.shift + 2 ^ memory.shift) memory.bytes
