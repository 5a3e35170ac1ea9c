-- Errors of the layers below, as a run has them.
use Rattle.byte_sinks.specs.declared.error.SinkError.{SinkError}
use Rattle.byte_sinks.specs.declared.error.SinkError.TheVariants as sinks
use Rattle.migration_jobs.specs.declared.error.RunError.{RunError}
use Rattle.migration_jobs.specs.declared.error.RunError.TheVariants as runs

-- why bytes were not written
abbrev pub error_of_sink : SinkError → RunError
error_of_sink sinks.Memory = runs.Memory
error_of_sink sinks.Write = runs.Write
