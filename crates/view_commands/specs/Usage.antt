-- What is told of words that the command line takes and the program does not.
use Rattle.std.specs.Prelude.{◌≡◌, ℕ, ⊤, List, string_bytes}
use Rattle.job_commands.specs.declared.command.WordsError.TheVariants as errors
use Rattle.view_commands.specs.declared.command.ViewWordsError.{ViewWordsError}
use Rattle.view_commands.specs.declared.command.ViewWordsError.TheVariants as asked

-- this text is told, or memory ran out for it
abbrev pub IsUsage : List ℕ → ViewWordsError → Type 0
IsUsage told (asked.Words errors.Memory) = ⊤
IsUsage told (asked.Words (errors.Usage text)) = string_bytes text ≡ told
IsUsage told (asked.Words (errors.Help text)) = ⊥
IsUsage told (asked.Words (errors.Refused refusal)) = ⊥
IsUsage told (asked.Limits refusal) = ⊥
