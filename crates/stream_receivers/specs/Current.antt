-- The current copies of marked pages, as a part: what a final copy sends. This project's own.
use Rattle.std.specs.Prelude.{ℕ, Bool, if◌then◌else◌, List, map, Some, None}
use Rattle.std.specs.List.{range_with_len}
use Rattle.migration_model.specs.Final.{current_copy}
use Rattle.migration_model.specs.Frames.{GuestShape}
use Rattle.migration_model.specs.Parts.{GuestPart, part_with}
use Rattle.migration_model.specs.Trace.{GuestTrace}

-- the part that has each marked page as it is at its version, and no other page
abbrev pub current_part : GuestTrace → GuestShape → List ℕ → (ℕ → Bool) → GuestPart
current_part trace shape versions marked =
    part_with shape (map (λ page. if marked page then Some (current_copy trace versions page) else None)
    (range_with_len 0 shape.pages))
