-- The bytes at the front, read as a frame, whether or not one was written there.
use Rattle.std.specs.Prelude.{ℕ, ◌+◌, ◌^◌, ◌==◌, if◌then◌else◌, List, Option, Some, None, take, drop, slice_index}
use Rattle.std.specs.Int.{w32}
use Rattle.migration_model.specs.Numbers.{number_in}
use Rattle.migration_model.specs.Frames.{GuestShape}

abbrev pub page_in : List ℕ → ℕ
page_in bytes = number_in w32 bytes

abbrev pub stamp_in : List ℕ → ℕ
stamp_in bytes = number_in w32 (drop 4 bytes)

abbrev pub kind_in : List ℕ → ℕ
kind_in bytes = slice_index bytes 8

-- the page after the head
abbrev pub bytes_in : GuestShape → List ℕ → List ℕ
bytes_in shape bytes = take (2 ^ shape.shift) (drop 9 bytes)

abbrev pub body_in : GuestShape → List ℕ → Option (List ℕ)
body_in shape bytes = if kind_in bytes == 0 then None else Some (bytes_in shape bytes)

-- how many bytes the frame at the front has
abbrev pub size_in : GuestShape → List ℕ → ℕ
size_in shape bytes = if kind_in bytes == 0 then 9 else 9 + 2 ^ shape.shift
