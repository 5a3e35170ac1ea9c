-- Memory that is as large as a trace says.
use Rattle.std.proofs.Common.{◌≡◌, ℕ, ◌*◌, ◌^◌, ◌<◌, length, replicate, refl, sym}
use Rattle.std.proofs.Common.{subst}
use Rattle.std.proofs.lemmas.List.{length-replicate}
use Rattle.migration_model.specs.Trace.{GuestTrace, IsTrace}
use Rattle.migration_model.specs.Memory.{GuestMemory, IsMemory, image_of}
use Rattle.migration_model.specs.Versions.{page_at}
use Rattle.migration_model.proofs.Pages.{length-applied, zero_page}
use Rattle.migration_jobs.specs.Shown.{memory_shown}
use Rattle.job_kinds.specs.declared.job.Show.{Show}
use Rattle.job_kinds.specs.declared.job.Show.TheVariants as shows

pub record IsAsLarge (trace : GuestTrace) (memory : GuestMemory) : Type 0 where
  pub shift : memory.shift ≡ trace.shift
  pub pages : memory.pages ≡ trace.pages
  pub len : length memory.bytes ≡ memory.pages * 2 ^ memory.shift

-- the memory after all writes is as large as the trace says
pub image_large : (trace : GuestTrace) → IsTrace trace → IsAsLarge trace (image_of trace)
image_large trace is =
    let none = replicate (trace.pages * 2 ^ trace.shift) 0 in
    let after = length-applied trace.version trace.shift trace.pages trace.writes none
    (length-replicate (trace.pages * 2 ^ trace.shift) 0) is.writes.each in
    subst (IsAsLarge trace) (sym after.1) (record { shift = refl; pages = refl; len = after.2 })

-- the memory that is shown is as large as the trace says
pub shown_large : (show : Show) (trace : GuestTrace) (memory : GuestMemory) → IsTrace trace → IsAsLarge trace memory
    → IsAsLarge trace (memory_shown show trace memory)
shown_large shows.Stop trace memory is large = large
shown_large shows.End trace memory is large = image_large trace is

pub large_memory : (trace : GuestTrace) (memory : GuestMemory) → IsTrace trace → IsAsLarge trace memory
    → IsMemory memory.shift memory.pages memory.bytes
large_memory trace memory is large = record { size = rw (large.shift, large.pages) is.size; len = large.len }

-- before any write, a page is zeros
pub page_at_first : (trace : GuestTrace) (page : ℕ) → page < trace.pages → page_at trace page 0
    ≡ replicate (2 ^ trace.shift) 0
page_at_first trace page low = zero_page trace.shift trace.pages page low
