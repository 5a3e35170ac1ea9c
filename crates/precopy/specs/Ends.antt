-- How the program ends if it has not done what the words ask for.
use Rattle.std.specs.Prelude.{◌≡◌, ◌≢◌, ◌↔◌, ℕ, Bool, List, Option, None, codes, true}
use Rattle.std.specs.Io.KnownBytes.{Keeps}
use Rattle.byte_sinks.specs.Sink.{AppendsPart}
use Rattle.job_kinds.specs.declared.job.Job.{Job}
use Rattle.migration_jobs.specs.Output.{IsOutput, IsRefusalOf, RefusesRun}
use Rattle.migration_jobs.specs.declared.error.RunError.{RunError}
use Rattle.migration_jobs.specs.declared.error.RunError.TheVariants as errors
use Rattle.job_commands.specs.Commands.{IsWordsRefusal, WordsFail}
use Rattle.job_commands.specs.Ends.{IsTold, TellsLine, TellsWords, line_of, memory_line, write_line}
use Rattle.job_commands.specs.declared.command.WordsError.{WordsError}
use Rattle.job_commands.specs.declared.program.Program.TheVariants.{Precopy}
use Rattle.trace_codec.specs.declared.error.TraceError.TheVariants.{ReadFault}

-- A job over what a source held failed: the sink holds a prefix of the output if a write failed, and otherwise what it
-- held before. `unread` and `unwritten` say whether the source and the sink failed, and `tells` what was told.
pub record HasFailed (known : Option (List ℕ)) (job : Job) (unread unwritten : Bool) (old new : Option (List ℕ))
    (tells : RunError → Type 0) : Type 0 where
  pub error : RunError
  pub own : IsRefusalOf job error
  pub cause : RefusesRun known error
  pub read_failed : (error ≡ errors.Trace ReadFault) ↔ (unread ≡ true)
  pub write_failed : (error ≡ errors.Write) ↔ (unwritten ≡ true)
  pub part : error ≡ errors.Write → (output : List ℕ) × IsOutput known job output × AppendsPart old new output
  pub kept : error ≢ errors.Write → Keeps old new
  pub told : tells error

-- the fault line of a failed run was told
abbrev pub TellsRun : RunError → Option (List ℕ) → Option (List ℕ) → Bool → Type 0
TellsRun (errors.Trace e) old new has_failed = TellsLine Precopy None old new has_failed
TellsRun errors.Memory old new has_failed = IsTold (memory_line Precopy) old new has_failed
TellsRun errors.Thread old new has_failed = IsTold (line_of Precopy (codes "thread")) old new has_failed
TellsRun (errors.Live e) old new has_failed = TellsLine Precopy None old new has_failed
TellsRun errors.Write old new has_failed = IsTold (write_line Precopy) old new has_failed

-- words are refused, and that was told
pub record TellsRefusal (words : List (List ℕ)) (old new : Option (List ℕ)) (has_failed : Bool) : Type 0 where
  pub error : WordsError
  pub fails : WordsFail words error
  pub is_refusal : IsWordsRefusal error
  pub told : TellsWords Precopy error old new has_failed
