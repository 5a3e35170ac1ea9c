-- What the words after the program's name ask for.
use Rattle.std.specs.Prelude.{◌≡◌, ℕ, Bool, List, [], Option, true, codes}
use Rattle.clap.specs.Faults.{fault_of}
use Rattle.clap.specs.Kinds.{IsAmong}
use Rattle.clap.specs.Simple.{App, new_shape}
use Rattle.clap.specs.Walk.{Text}
use Rattle.clap.specs.declared.error.kind.ErrorKind.{ErrorKind}
use Rattle.job_commands.specs.Commands.{FailsByKind, IsRequest, IsWordsRefusal}
use Rattle.job_commands.specs.Ends.{TellsWords}
use Rattle.job_commands.specs.declared.command.WordsError.{WordsError}
use Rattle.job_commands.specs.declared.program.Program.TheVariants.{PrecopySchedule}

-- the command line: no commands, and no options but those for help and for the version
unfoldable pub schedule_line : App
schedule_line = record { top = record (new_shape (codes "precopy-schedule")) { has_version = true }; subs = [] }

-- The words, the first being the program's name, ask for schedules, or for help or the version, or they are refused.
-- `fault_of` is clap's: the kinds of error that it finds in words, none if it takes them.
abbrev pub AskForSchedules : List Text → Type 0
AskForSchedules words = fault_of schedule_line words ≡ []

abbrev pub AskForHelp : List Text → Type 0
AskForHelp words = (kind : ErrorKind) × IsAmong kind (fault_of schedule_line words) × IsRequest kind

abbrev pub AreRefusedWords : List Text → Type 0
AreRefusedWords words = (kind : ErrorKind) × IsAmong kind (fault_of schedule_line words) × ¬ IsRequest kind

-- words are refused, and that was told
pub record TellsRefusal (words : List Text) (old new : Option (List ℕ)) (has_failed : Bool) : Type 0 where
  pub error : WordsError
  pub fails : FailsByKind schedule_line words error
  pub is_refusal : IsWordsRefusal error
  pub told : TellsWords PrecopySchedule error old new has_failed
