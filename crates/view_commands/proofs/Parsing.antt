-- What a command line makes of words, as the program gets it.
use Rattle.std.proofs.Common.{◌≡◌, Bool, List, [], Option, Some, None, IfOk, IfErr, inl, inr, sym, subst}
use Rattle.std.specs.Prelude.{◌⊎◌, Result, Ok, Err, MatchOption}
use Rattle.clap.specs.Faults.{fault_of}
use Rattle.clap.specs.Kinds.{HasKind}
use Rattle.clap.specs.Simple.{App, subcommand_of}
use Rattle.clap.specs.Values.{kind_of}
use Rattle.clap.specs.Walk.{Row, Text}
use Rattle.clap.specs.declared.error.Error.{Error}
use Rattle.job_commands.specs.Commands.{TellsError}
use Rattle.job_commands.specs.declared.command.WordsError.{WordsError}
use Rattle.job_commands.proofs.LineLemmas.{fails_by_kind}
use Rattle.view_commands.specs.Commands.{json_line, json_words, view_line}
use Rattle.view_commands.specs.Views.{AsksForDocument, AsksForView, FailsOn, IsOutOfMemory, Names, RefusesDocument}
use Rattle.view_commands.specs.Views.{RefusesView, WordsAsk, WordsFail}
use Rattle.view_commands.specs.declared.command.AskedView.{AskedView}
use Rattle.view_commands.specs.declared.command.ViewWordsError.{ViewWordsError}
use Rattle.view_commands.specs.declared.command.ViewWordsError.TheVariants.{Words}

-- memory ran out, or clap or their command refuses the words
abbrev pub Fails : App → List Text → (Text → List Row → ViewWordsError → Type 0) → ViewWordsError → Type 0
Fails line words Refuses e = IsOutOfMemory e ⊎ (FailsOn line words e
    ⊎ Names line words (λ name rows. Refuses name rows e))

module _ (line : App) (words : List Text) (name : Text) (rows : List Row) (taken : fault_of line words ≡ [])
    (command : subcommand_of line words ≡ Some (name, rows)) where
  -- the command makes the view, or refuses it
  pub made_by : (Asks : Text → List Row → AskedView → Type 0) (r : Result AskedView ViewWordsError)
      → IfOk r (λ asked. Asks name rows asked) → IfOk r (λ asked. Names line words (λ n rs. Asks n rs asked))
  made_by Asks (Ok asked) holds = record { taken = taken; name = name; rows = rows; command = command; holds = holds }
  made_by Asks (Err e) holds = tt

  pub refused_by : (Refuses : Text → List Row → ViewWordsError → Type 0) (r : Result AskedView ViewWordsError)
      → IfErr r (λ e. Refuses name rows e) → IfErr r (λ e. Fails line words Refuses e)
  refused_by Refuses (Ok asked) holds = tt
  refused_by Refuses (Err e) holds = inr (inr (record {
    taken = taken;
    name = name;
    rows = rows;
    command = command;
    holds = holds;
  }))

-- clap refuses the words
pub refused_at_once : (line : App) (words : List Text) (Refuses : Text → List Row → ViewWordsError → Type 0)
    (error : Error) (told : WordsError) → HasKind (fault_of line words) error → TellsError (kind_of error) told
    → Fails line words Refuses (Words told)
refused_at_once line words Refuses error told has tells = inr (inl (fails_by_kind line words error told has tells))

-- ---- with `json` after the program's name, and without it

abbrev pub Asked : Bool → List Text → AskedView → Option (List Text) → Type 0
Asked terminal words asked o = MatchOption o
    (Names view_line words (λ name rows. AsksForView terminal name rows asked.view asked.scale))
    (λ below. Names json_line below (λ name rows. AsksForDocument name rows asked.view asked.scale))

abbrev pub Failed : List Text → ViewWordsError → Option (List Text) → Type 0
Failed words e o = MatchOption o (FailsOn view_line words e ⊎ Names view_line words
    (λ name rows. RefusesView name rows e))
    (λ below. FailsOn json_line below e ⊎ Names json_line below (λ name rows. RefusesDocument name rows e))

pub asked_below : (terminal : Bool) (words below : List Text) (r : Result AskedView ViewWordsError)
    → json_words words ≡ Some below
    → IfOk r (λ asked. Names json_line below (λ name rows. AsksForDocument name rows asked.view asked.scale))
    → IfOk r (λ asked. WordsAsk terminal words asked)
asked_below terminal words below (Ok asked) is holds = let P : Option (List Text)
    → Type 0 = λ o. Asked terminal words asked o in subst P (sym is) holds
asked_below terminal words below (Err e) is holds = tt

pub failed_below : (words below : List Text) (r : Result AskedView ViewWordsError) → json_words words ≡ Some below
    → IfErr r (λ e. Fails json_line below RefusesDocument e) → IfErr r (λ e. WordsFail words e)
failed_below words below (Ok asked) is holds = tt
failed_below words below (Err e) is (inl memory) = inl memory
failed_below words below (Err e) is (inr cause) = let P : Option (List Text)
    → Type 0 = λ o. Failed words e o in inr (subst P (sym is) cause)

pub asked_above : (terminal : Bool) (words : List Text) (r : Result AskedView ViewWordsError)
    → json_words words ≡ None
    → IfOk r (λ asked. Names view_line words (λ name rows. AsksForView terminal name rows asked.view asked.scale))
    → IfOk r (λ asked. WordsAsk terminal words asked)
asked_above terminal words (Ok asked) is holds = let P : Option (List Text)
    → Type 0 = λ o. Asked terminal words asked o in subst P (sym is) holds
asked_above terminal words (Err e) is holds = tt

pub failed_above : (words : List Text) (r : Result AskedView ViewWordsError) → json_words words ≡ None
    → IfErr r (λ e. Fails view_line words RefusesView e) → IfErr r (λ e. WordsFail words e)
failed_above words (Ok asked) is holds = tt
failed_above words (Err e) is (inl memory) = inl memory
failed_above words (Err e) is (inr cause) = let P : Option (List Text)
    → Type 0 = λ o. Failed words e o in inr (subst P (sym is) cause)
