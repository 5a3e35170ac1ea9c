-- What clap makes of the program's words.
use Rattle.std.proofs.Common.{◌≡◌, ℕ, List, [], Some, true, codes, refl, ap, ◌∙◌}
use Rattle.clap.proofs.OnLiterals.{clap_on_literals}
use Rattle.clap.specs.Faults.{is_simple_and_free}
use Rattle.clap.specs.Simple.{App, app_of, app_of_fields, on_top}
use Rattle.clap.specs.Walk.{Text}
use Rattle.clap.specs.declared.builder.command.Command.{Command}
use Rattle.clap.specs.declared.builder.command.Command.TheViews.{out-Command as fields_of}
use Rattle.job_commands.specs.Commands.{FailsByKind, IsWordsRefusal, leaf}
use Rattle.job_commands.specs.Ends.{IsHelpText}
use Rattle.job_commands.specs.declared.command.WordsError.{WordsError}
use Rattle.job_commands.specs.declared.command.WordsError.TheVariants.{Help, Memory, Refused, Usage}
use Rattle.move_schedules.specs.Words.{AreRefusedWords, AskForHelp, schedule_line}

-- the command line before it has a version
abbrev pub bare_line : App
bare_line = record { top = leaf (codes "precopy-schedule") []; subs = [] }

pub line_is : (old new : Command) (text : _) → app_of old ≡ bare_line
    → fields_of new ≡ record (fields_of old) { version = Some text } → app_of new ≡ schedule_line
unfolding schedule_line
line_is old new text was is = ap app_of_fields is ∙ ap (on_top (λ s. record s { has_version = true })) was

pub line_is_free : is_simple_and_free schedule_line ≡ true
unfolding schedule_line clap_on_literals
line_is_free = refl

-- words whose error has a help text ask for help
pub asked_for : (words : List Text) (e : WordsError) (text : List ℕ) → FailsByKind schedule_line words e
    → IsHelpText e text → AskForHelp words
asked_for words (Help shown) text asks is = asks
asked_for words Memory text asks is = absurd is
asked_for words (Usage shown) text asks is = absurd is
asked_for words (Refused refusal) text asks is = absurd is

-- words whose error refuses them are refused
pub refused_words : (words : List Text) (e : WordsError) → FailsByKind schedule_line words e → IsWordsRefusal e
    → AreRefusedWords words
refused_words words (Help shown) fails is = absurd is
refused_words words Memory fails is = absurd is
refused_words words (Usage shown) fails is = fails
refused_words words (Refused refusal) fails is = absurd fails
