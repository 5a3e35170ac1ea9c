-- How words that make no view end, and what is told of that and of a failed view.
use Rattle.std.specs.Prelude.{ℕ, Bool, List, Option, None, ⊤}
use Rattle.byte_sinks.specs.declared.error.SinkError.{SinkError}
use Rattle.byte_sinks.specs.declared.error.SinkError.TheVariants as sinks
use Rattle.job_commands.specs.Commands.{IsWordsRefusal}
use Rattle.job_commands.specs.Ends.{IsHelpText, IsTold, TellsLine, TellsWords, memory_line, write_line}
use Rattle.job_commands.specs.declared.program.Program.TheVariants.{PrecopyView}
use Rattle.precopy_view.specs.declared.faults.ShowError.{ShowError}
use Rattle.precopy_view.specs.declared.faults.ShowError.TheVariants as shows
use Rattle.view_commands.specs.Views.{WordsFail}
use Rattle.view_commands.specs.declared.command.ViewWordsError.{ViewWordsError}
use Rattle.view_commands.specs.declared.command.ViewWordsError.TheVariants as asked

-- the text of a request for help
abbrev pub IsHelpOf : ViewWordsError → List ℕ → Type 0
IsHelpOf (asked.Words e) text = IsHelpText e text
IsHelpOf (asked.Limits refusal) text = ⊥

-- a request for help
abbrev pub IsHelp : ViewWordsError → Type 0
IsHelp e = (text : List ℕ) × IsHelpOf e text

-- words that are not taken, or refused
abbrev pub IsRefusal : ViewWordsError → Type 0
IsRefusal (asked.Words e) = IsWordsRefusal e
IsRefusal (asked.Limits refusal) = ⊤

-- words make no view, for an error of this kind
abbrev pub FailsAs : (ViewWordsError → Type 0) → List (List ℕ) → Type 0
FailsAs Is words = (e : ViewWordsError) × WordsFail words e × Is e

-- what was told of words that make no view
abbrev pub TellsViewWords : ViewWordsError → Option (List ℕ) → Option (List ℕ) → Bool → Type 0
TellsViewWords (asked.Words e) old new has_failed = TellsWords PrecopyView e old new has_failed
TellsViewWords (asked.Limits refusal) old new has_failed = TellsLine PrecopyView None old new has_failed

-- words are refused, and that was told
pub record TellsRefusal (words : List (List ℕ)) (old new : Option (List ℕ)) (has_failed : Bool) : Type 0 where
  pub error : ViewWordsError
  pub fails : WordsFail words error
  pub is_refusal : IsRefusal error
  pub told : TellsViewWords error old new has_failed

-- the fault line of a view that failed was told
abbrev pub TellsShow : ShowError → Option (List ℕ) → Option (List ℕ) → Bool → Type 0
TellsShow (shows.Trace e) old new has_failed = TellsLine PrecopyView None old new has_failed
TellsShow shows.Memory old new has_failed = IsTold (memory_line PrecopyView) old new has_failed
TellsShow shows.Write old new has_failed = IsTold (write_line PrecopyView) old new has_failed
TellsShow (shows.PageSize size) old new has_failed = TellsLine PrecopyView None old new has_failed
TellsShow (shows.TooManyPages pages) old new has_failed = TellsLine PrecopyView None old new has_failed
TellsShow (shows.View e) old new has_failed = TellsLine PrecopyView None old new has_failed

-- why a view was not written
abbrev pub error_of_sink : SinkError → ShowError
error_of_sink sinks.Memory = shows.Memory
error_of_sink sinks.Write = shows.Write
