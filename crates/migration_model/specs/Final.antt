-- The final copy of a guest that stands still: each page that is still marked comes once more, as it is now. That a
-- pre-copy migration ends this way is from Clark and others, "Live Migration of Virtual Machines" (2005), section 3.1,
-- on stop-and-copy. Parts, stamps and versions are this project's own.
use Rattle.std.specs.Prelude.{◌≡◌, ℕ, ◌<◌, ◌&&◌, ◌==◌, Bool, if◌then◌else◌, IsTrue, List, length, slice_index_or, Some}
use Rattle.migration_model.specs.Trace.{GuestTrace}
use Rattle.migration_model.specs.Versions.{page_at}
use Rattle.migration_model.specs.Frames.{GuestShape, shape_with}
use Rattle.migration_model.specs.Parts.{PageCopy, GuestPart, IsPart, copy_at, later}

-- the shape of a trace
abbrev pub shape_of_trace : GuestTrace → GuestShape
shape_of_trace trace = shape_with trace.shift trace.pages (length trace.writes)

-- a page as it is at its version
abbrev pub current_copy : GuestTrace → List ℕ → ℕ → PageCopy
current_copy trace versions page = record {
  stamp = slice_index_or versions page 0;
  content = page_at trace page (slice_index_or versions page 0);
}

-- a part after it took the current copy of each page that `takes` passes: it has the later copy of those, and its own
-- of all others
pub record TakesCurrent (trace : GuestTrace) (versions : List ℕ) (takes : ℕ → Bool) (old new : GuestPart) : Type 0 where
  pub is_part : IsPart new
  pub shape : new.shape ≡ old.shape
  pub copies : (page : ℕ) → copy_at new page
      ≡ (if takes page then later (copy_at old page) (Some (current_copy trace versions page)) else copy_at old page)

-- Each marked page has one receiver among the parts, which takes its current copy; nothing else changes in any part.
pub record IsFinalCopy (trace : GuestTrace) (versions : List ℕ)
    (marked : ℕ → Bool) (old new : List GuestPart) : Type 0 where
  pub receiver : ℕ → ℕ
  pub received : (page : ℕ) → IsTrue (marked page) → receiver page < length old
  pub count : length new ≡ length old
  pub each : (i : ℕ) (part : GuestPart) → i < length old
      → TakesCurrent trace versions (λ page. marked page && (receiver page == i)) (slice_index_or old i part)
      (slice_index_or new i part)
