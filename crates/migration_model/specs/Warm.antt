-- A destination that begins with the guest's memory before a tick, its base: a warm start. This project's own.
use Rattle.std.specs.Prelude.{ℕ, List, map, slice_index_or, Option, Some, None}
use Rattle.std.specs.List.{range_with_len}
use Rattle.migration_model.specs.Trace.{GuestTrace}
use Rattle.migration_model.specs.Memory.{GuestMemory, image_before, page_of}
use Rattle.migration_model.specs.Versions.{version_before}
use Rattle.migration_model.specs.Frames.{GuestShape}
use Rattle.migration_model.specs.Parts.{PageCopy, GuestPart, empty_part, part_with}
use Rattle.migration_model.specs.Final.{shape_of_trace}

-- the copy of a page of this memory, with the page's stamp
abbrev pub copy_from : GuestMemory → List ℕ → ℕ → PageCopy
copy_from memory stamps page = record { stamp = slice_index_or stamps page 0; content = page_of memory page }

-- the part that has each page of this memory, with its stamp
abbrev pub part_of_memory : GuestShape → GuestMemory → List ℕ → GuestPart
part_of_memory shape memory stamps =
    part_with shape (map (λ page. Some (copy_from memory stamps page)) (range_with_len 0 shape.pages))

-- the versions of all pages before a tick
abbrev pub versions_of : GuestTrace → ℕ → List ℕ
versions_of trace tick = map (λ page. version_before trace page tick) (range_with_len 0 trace.pages)

-- What the destination has before the first round: with a base, each page as it was before that tick, at its version at
-- that time. Without one it has no page.
abbrev pub first_part : GuestTrace → Option ℕ → GuestPart
first_part trace None = empty_part (shape_of_trace trace)
first_part trace (Some base) = part_of_memory (shape_of_trace trace) (image_before trace base) (versions_of trace base)
