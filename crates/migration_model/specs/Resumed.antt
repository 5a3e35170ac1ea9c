-- Memory whose pages are at versions of their own, and the writes that each of them lacks. This project's own.
use Rattle.std.specs.Prelude.{◌≡◌, ℕ, ◌<◌, ◌==◌, List, drop, slice_index_or}
use Rattle.std.specs.List.{filter, fold}
use Rattle.migration_model.specs.Trace.{GuestWrite, GuestTrace}
use Rattle.migration_model.specs.Memory.{GuestMemory, IsMemory, apply, page_of}
use Rattle.migration_model.specs.Versions.{page_at}

-- the writes to a page that come after a version, in order
abbrev pub writes_after : GuestTrace → ℕ → ℕ → List GuestWrite
writes_after trace page version = filter (λ write. write.page == page) (drop version trace.writes)

-- each page of the memory is at its version
abbrev pub AtVersions : GuestTrace → List ℕ → GuestMemory → Type 0
AtVersions trace versions memory = (page : ℕ) → page < memory.pages → page_of memory page
    ≡ page_at trace page (slice_index_or versions page 0)

-- memory of the same size in which each page also has its own writes after its version
pub record IsResumed (trace : GuestTrace) (versions : List ℕ) (before after : GuestMemory) : Type 0 where
  pub is_memory : IsMemory after.shift after.pages after.bytes
  pub shift : after.shift ≡ before.shift
  pub pages : after.pages ≡ before.pages
  pub each : (page : ℕ) → page < before.pages
      → page_of after page ≡ page_of (fold apply before (writes_after trace page (slice_index_or versions page 0))) page
