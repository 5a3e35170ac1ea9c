-- The numbers that C sees for refusals of a writer. This project's own.
use Rattle.std.specs.Prelude.{ℕ}
use Rattle.c_answers.specs.Answers.{number_of}
use Rattle.c_answers.specs.declared.answers.Refusal.TheVariants as refusals
use Rattle.trace_writer.specs.declared.error.RecordingError.{RecordingError}
use Rattle.trace_writer.specs.declared.error.RecordingError.TheVariants as errors

abbrev pub number_of_recording : RecordingError → ℕ
number_of_recording (errors.Trace e) = number_of (refusals.Trace e)
number_of_recording errors.ShortBuffer = number_of refusals.ShortBuffer
