-- What an error of words says of them.
use Rattle.std.proofs.Common.{ℕ, List}
use Rattle.job_commands.specs.Commands.{AskForHelp, WordsFail}
use Rattle.job_commands.specs.Ends.{IsHelpText}
use Rattle.job_commands.specs.declared.command.WordsError.{WordsError}
use Rattle.job_commands.specs.declared.command.WordsError.TheVariants.{Help, Memory, Refused, Usage}

-- words whose error has a help text ask for help
pub asked_for : (words : List (List ℕ)) (e : WordsError) (text : List ℕ) → WordsFail words e → IsHelpText e text
    → AskForHelp words
asked_for words (Help shown) text asks is = asks
asked_for words Memory text asks is = absurd is
asked_for words (Usage shown) text asks is = absurd is
asked_for words (Refused refusal) text asks is = absurd is
