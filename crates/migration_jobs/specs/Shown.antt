-- The memory that is shown of a live run.
use Rattle.migration_model.specs.Trace.{GuestTrace}
use Rattle.migration_model.specs.Memory.{GuestMemory, image_of}
use Rattle.job_kinds.specs.declared.job.Show.{Show}
use Rattle.job_kinds.specs.declared.job.Show.TheVariants as shows

-- the memory as it is when the guest stopped, or after all writes
abbrev pub memory_shown : Show → GuestTrace → GuestMemory → GuestMemory
memory_shown shows.Stop trace memory = memory
memory_shown shows.End trace memory = image_of trace
