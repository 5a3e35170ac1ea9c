-- How a program ends whose words make nothing that it can run, and what it tells of that and of an error.
use Rattle.std.specs.Prelude.{◌≡◌, ◌≤◌, ◌⊎◌, ◌++◌, ◌∷◌, [], ℕ, Bool, false, true, List, Option, None, IfSome, codes}
use Rattle.std.specs.Prelude.{length, string_bytes}
use Rattle.std.specs.Io.KnownBytes.{Appends}
use Rattle.byte_sinks.specs.Sink.{AppendsPart}
use Rattle.job_commands.specs.declared.command.WordsError.{WordsError}
use Rattle.job_commands.specs.declared.command.WordsError.TheVariants as errors
use Rattle.job_commands.specs.declared.program.Program.{Program}
use Rattle.job_commands.specs.declared.program.Program.TheVariants as programs

-- neither the source of a program nor one of its sinks has failed
pub record NoneHasFailed (source sink faults : Bool) : Type 0 where
  pub unread : source ≡ false
  pub unwritten : sink ≡ false
  pub untold : faults ≡ false

-- the text of a request for help
abbrev pub IsHelpText : WordsError → List ℕ → Type 0
IsHelpText (errors.Help text) shown = shown ≡ string_bytes text
IsHelpText errors.Memory shown = ⊥
IsHelpText (errors.Usage text) shown = ⊥
IsHelpText (errors.Refused refusal) shown = ⊥

-- the text was written, or a prefix of it before a write failed
abbrev pub IsTold : List ℕ → Option (List ℕ) → Option (List ℕ) → Bool → Type 0
IsTold text old new has_failed = Appends old new text ⊎ ((has_failed ≡ true) × AppendsPart old new text)

-- the name of a program, with which each of its fault lines begins
abbrev pub name_of : Program → List ℕ
name_of programs.Precopy = codes "precopy"
name_of programs.PrecopyView = codes "precopy-view"
name_of programs.PrecopySchedule = codes "precopy-schedule"

-- a fault line: the name of the program, a cause, and a newline
abbrev pub line_of : Program → List ℕ → List ℕ
line_of program cause = name_of program ++ (codes ": " ++ (cause ++ 10 ∷ []))

-- the lines of a want of memory and of a failed write
abbrev pub memory_line : Program → List ℕ
memory_line program = line_of program (codes "memory")

abbrev pub write_line : Program → List ℕ
write_line program = line_of program (codes "write")

-- a cause is this text, or is cut and has 128 bytes
abbrev pub IsWholeOrCut : List ℕ → List ℕ → Type 0
IsWholeOrCut cause text = (cause ≡ text) ⊎ (length cause ≡ 128)

-- A fault line of a program was told, whose cause has at most 128 bytes. If the text of the cause is known, it is whole
-- or cut.
pub record TellsLine (program : Program) (text old new : Option (List ℕ)) (has_failed : Bool) : Type 0 where
  pub cause : List ℕ
  pub short : length cause ≤ 128
  pub whole : IfSome text (IsWholeOrCut cause)
  pub told : IsTold (line_of program cause) old new has_failed

-- What was told of an error of words: that help could not be written, a want of memory, the text on words that are not
-- taken, or the fault line of a refusal.
abbrev pub TellsWords : Program → WordsError → Option (List ℕ) → Option (List ℕ) → Bool → Type 0
TellsWords program (errors.Help text) old new has_failed = IsTold (write_line program) old new has_failed
TellsWords program errors.Memory old new has_failed = IsTold (memory_line program) old new has_failed
TellsWords program (errors.Usage text) old new has_failed = IsTold (string_bytes text) old new has_failed
TellsWords program (errors.Refused refusal) old new has_failed = TellsLine program None old new has_failed
