-- Why some bytes begin with no frame: the first cause in them. This project's own.
use Rattle.std.specs.Prelude.{◌≡◌, ◌⊎◌, ℕ, ◌+◌, ◌^◌, ◌==◌, nat_lt, nat_le, if◌then◌else◌, List, Option, Some, None}
use Rattle.std.specs.Prelude.{length}
use Rattle.std.specs.List.{list_all}
use Rattle.migration_model.specs.Frames.{GuestShape}
use Rattle.page_message.specs.Reading.{page_in, stamp_in, kind_in, bytes_in}
use Rattle.page_message.specs.declared.error.FrameError.{FrameError}
use Rattle.page_message.specs.declared.error.FrameError.TheVariants.{Short, Page, Stamp, Kind, ZeroData, Memory}

-- why the bytes are refused
abbrev pub frame_refusal : GuestShape → List ℕ → Option FrameError
frame_refusal shape bytes =
    if nat_lt (length bytes) 9 then Some Short
    else (if nat_le shape.pages (page_in bytes) then Some Page
    else (if nat_lt shape.writes (stamp_in bytes) then Some Stamp
    else (if nat_lt 1 (kind_in bytes) then Some Kind
    else (if kind_in bytes == 0 then None
    else (if nat_lt (length bytes) (9 + 2 ^ shape.shift) then Some Short
    else (if list_all (λ byte. byte == 0) (bytes_in shape bytes) then Some ZeroData
    else None))))))

-- that is the cause, or there is none and memory ran out
abbrev pub RefusesFrame : GuestShape → List ℕ → FrameError → Type 0
RefusesFrame shape bytes e =
    ((e ≡ Memory) × (frame_refusal shape bytes ≡ None)) ⊎ (frame_refusal shape bytes ≡ Some e)
