-- The command line of `precopy`: its commands, their options, and what the words after the program's name ask for.
use Rattle.std.specs.Prelude.{◌≡◌, ◌≢◌, ◌⊎◌, List, [], ◌∷◌, ◌++◌, Option, Some, None, MatchOption, if◌then◌else◌}
use Rattle.std.specs.Prelude.{true, false, ⊤, codes}
use Rattle.std.specs.Str.{bytes_eq}
use Rattle.clap.specs.Lexer.{usize_max}
use Rattle.clap.specs.Simple.{App, Shape, app_of, new_rule, new_shape, on_top, subcommand_of}
use Rattle.clap.specs.Faults.{fault_of}
use Rattle.clap.specs.Kinds.{IsAmong}
use Rattle.clap.specs.Walk.{Row, Rule, Text}
use Rattle.clap.specs.declared.builder.command.Command.TheViews.{out-Command as fields_of}
use Rattle.clap.specs.declared.builder.action.ArgAction.TheVariants.{Append, Set, SetTrue}
use Rattle.clap.specs.declared.builder.command.Command.{Command}
use Rattle.clap.specs.declared.builder.value_parser.ValueParser.TheVariants as parsers
use Rattle.clap.specs.declared.error.kind.ErrorKind.{ErrorKind}
use Rattle.clap.specs.declared.error.kind.ErrorKind.TheVariants as kinds
use Rattle.job_kinds.specs.declared.job.Job.{Job}
use Rattle.job_commands.specs.declared.command.WordsError.{WordsError}
use Rattle.job_commands.specs.declared.command.WordsError.TheVariants as errors
use Rattle.job_commands.specs.declared.command.WordsRefusal.{WordsRefusal}
use Rattle.job_commands.specs.Jobs.{AsksForJob, IsCommand, RefusesCommand}

-- an option that takes a whole number below 2^64
abbrev pub number_rule : Text → Rule
number_rule name = record (new_rule name) {
  long = Some name;
  action = Some Set;
  value_names = 1;
  parser = Some (parsers.Unsigned 0 18_446_744_073_709_551_615);
}

-- an option that is present or absent
abbrev pub flag_rule : Text → Rule
flag_rule name = record (new_rule name) { long = Some name; action = Some SetTrue }

-- the cases of a sweep: one word or more
abbrev pub case_rule : Rule
case_rule = record (new_rule (codes "case")) {
  action = Some Append;
  range = Some (record { start_inclusive = 1; end_inclusive = usize_max });
  value_names = 1;
  required = true;
}

-- how a migration is paced
abbrev pub pace_rules : List Rule
pace_rules = number_rule (codes "min") ∷ number_rule (codes "max") ∷ number_rule (codes "inc")
    ∷ number_rule (codes "threshold") ∷ number_rule (codes "rounds") ∷ number_rule (codes "start")
    ∷ number_rule (codes "base") ∷ flag_rule (codes "skip") ∷ []

-- the options of a report: the pace, and what it shows besides the plan
abbrev pub report_rules : List Rule
report_rules = pace_rules ++ number_rule (codes "window") ∷ number_rule (codes "hot")
    ∷ number_rule (codes "workers") ∷ []

-- the options of a live run: the pace, its threads and lanes, and which memory it writes
abbrev pub live_rules : List Rule
live_rules = pace_rules ++ number_rule (codes "workers") ∷ number_rule (codes "streams")
    ∷ number_rule (codes "replayers") ∷ number_rule (codes "lane") ∷ flag_rule (codes "at-stop") ∷ []

-- what all cases of a sweep have in common
abbrev pub sweep_rules : List Rule
sweep_rules = number_rule (codes "start") ∷ number_rule (codes "base") ∷ number_rule (codes "workers") ∷ []

-- the command line with these options added to those of its first command
abbrev pub with_rules : App → List Rule → App
with_rules app rules = on_top (λ s. record s { rules = s.rules ++ rules }) app

-- the new command is the old one with these options added to its own
pub record AddsRules (old : Command) (rules : List Rule) (new : Command) : Type 0 where
  pub app : app_of new ≡ with_rules (app_of old) rules
  pub globals : (fields_of new).has_globals ≡ (fields_of old).has_globals

-- a command with these options
abbrev pub leaf : Text → List Rule → Shape
leaf name rules = record (new_shape name) { rules = rules }

-- the command has this name and these options, and no commands of its own
pub record IsLeaf (command : Command) (name : Text) (rules : List Rule) : Type 0 where
  pub app : app_of command ≡ record { top = leaf name rules; subs = [] }
  pub globals : (fields_of command).has_globals ≡ false

-- the commands of `precopy`, one of which must follow the program's name
unfoldable pub precopy_line : App
precopy_line = record {
  top = record (new_shape (codes "precopy")) { is_leaf = false; subcommand_required = true };
  subs = leaf (codes "image") [] ∷ leaf (codes "report") report_rules ∷ leaf (codes "live") live_rules
      ∷ leaf (codes "sweep") (sweep_rules ++ case_rule ∷ []) ∷ [];
}

-- the command that these words name, the first being the program's name, and what clap finds after it
abbrev pub command_in : List Text → Option (Text × List Row)
command_in words = subcommand_of precopy_line words

-- The words ask for this job: `precopy` takes them, and they name a command that asks for it. `fault_of` is clap's: the
-- kinds of error that it finds in words, none if it takes them.
pub record WordsAsk (words : List Text) (job : Job) : Type 0 where
  pub taken : fault_of precopy_line words ≡ []
  pub name : Text
  pub rows : List Row
  pub command : command_in words ≡ Some (name, rows)
  pub asks : AsksForJob name rows job

-- `precopy` takes the words, and their command is refused for this
pub record WordsRefused (words : List Text) (refusal : WordsRefusal) : Type 0 where
  pub taken : fault_of precopy_line words ≡ []
  pub name : Text
  pub rows : List Row
  pub command : command_in words ≡ Some (name, rows)
  pub refused : RefusesCommand name rows refusal

-- a request for help, or for the version
abbrev pub IsRequest : ErrorKind → Type 0
IsRequest kind = (kind ≡ kinds.DisplayHelp) ⊎ (kind ≡ kinds.DisplayVersion)

-- the words after `help`, if it follows the program's name
abbrev pub help_names : List Text → Option (List Text)
help_names [] = None
help_names (program ∷ []) = None
help_names (program ∷ word ∷ names) = if bytes_eq word (codes "help") then Some names else None

-- what `help` has a text for: all of `precopy`, one of its commands, or `help`
abbrev pub AreHelpNames : List Text → Type 0
AreHelpNames [] = ⊤
AreHelpNames (name ∷ []) = IsCommand name ⊎ (name ≡ codes "help")
AreHelpNames (name ∷ other ∷ more) = ⊥

-- The words ask for help: `help`, with a name that it has a text for or with none, or words that clap takes as a
-- request. About `help` itself, clap says only that it is a request or is not taken.
abbrev pub AskForHelp : List Text → Type 0
AskForHelp words = MatchOption (help_names words)
    ((kind : ErrorKind) × IsAmong kind (fault_of precopy_line words) × IsRequest kind) AreHelpNames

-- `precopy` does not take the words
abbrev pub AreNotTaken : List Text → Type 0
AreNotTaken words = MatchOption (help_names words)
    ((kind : ErrorKind) × IsAmong kind (fault_of precopy_line words) × ¬ IsRequest kind) (λ names. ¬ AreHelpNames names)

-- what a clap refusal says about the words of a command line: it has one of the kinds that clap finds in them
abbrev pub FailsByKind : App → List Text → WordsError → Type 0
FailsByKind app words errors.Memory = ⊤
FailsByKind app words (errors.Help text) = (kind : ErrorKind) × IsAmong kind (fault_of app words) × IsRequest kind
FailsByKind app words (errors.Usage text) = (kind : ErrorKind) × IsAmong kind (fault_of app words) × ¬ IsRequest kind
FailsByKind app words (errors.Refused refusal) = ⊥

-- Why words make no job: memory ran out, they ask for help, `precopy` does not take them, or it refuses their command.
abbrev pub WordsFail : List Text → WordsError → Type 0
WordsFail words errors.Memory = ⊤
WordsFail words (errors.Help text) = AskForHelp words
WordsFail words (errors.Usage text) = AreNotTaken words
WordsFail words (errors.Refused refusal) = WordsRefused words refusal

-- the words are refused: `precopy` does not take them, or refuses their command
abbrev pub AreRefusedWords : List Text → Type 0
AreRefusedWords words = AreNotTaken words ⊎ ((refusal : WordsRefusal) × WordsRefused words refusal)

-- the error refuses words
abbrev pub IsWordsRefusal : WordsError → Type 0
IsWordsRefusal (errors.Usage text) = ⊤
IsWordsRefusal (errors.Refused refusal) = ⊤
IsWordsRefusal (errors.Help text) = ⊥
IsWordsRefusal errors.Memory = ⊥

-- how a clap error is reported: with its text, as help or as usage, or as lack of memory
abbrev pub TellsError : ErrorKind → WordsError → Type 0
TellsError kind errors.Memory = ⊤
TellsError kind (errors.Help text) = (kind ≢ kinds.OutOfMemory) × IsRequest kind
TellsError kind (errors.Usage text) = (kind ≢ kinds.OutOfMemory) × ¬ IsRequest kind
TellsError kind (errors.Refused refusal) = ⊥
