-- Why a view could not be made.
use Rattle.predictions.specs.declared.starts.error.StartsError.{StartsError}
use Rattle.predictions.specs.declared.starts.error.StartsError.TheVariants as starts
use Rattle.trace_views.specs.declared.error.ViewError.{ViewError}
use Rattle.trace_views.specs.declared.error.ViewError.TheVariants as errors

-- why a view of starts could not be made
abbrev pub error_for_starts : StartsError → ViewError
error_for_starts starts.Memory = errors.Memory
error_for_starts starts.TooMany = errors.TooManyStarts
error_for_starts (starts.Settings e) = errors.Settings e
