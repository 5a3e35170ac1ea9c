-- What a command line makes of words, and what `precopy` does.
use Rattle.std.proofs.Common.{◌≡◌, Bool, true, false, List, [], ◌∷◌, Option, Some, None, inl, inr, refl, sym, ap, ◌∙◌}
use Rattle.std.specs.Prelude.{Result, Ok, Err, IfErr, IfOk, is_some, option_map}
use Rattle.clap.proofs.OnLiterals.{clap_on_literals}
use Rattle.clap.specs.Faults.{check_fault, defaults_fault, fault_of, is_simple_and_free, level_fault, settle_fault}
use Rattle.clap.specs.Faults.{walk_fault}
use Rattle.clap.specs.Kinds.{HasKind, Kinds, check_kinds, or_else}
use Rattle.clap.specs.Matches.{has_subcommand, subcommand_name_of}
use Rattle.clap.specs.Simple.{App, HasMatchesOf, Shape, built, is_simple, subcommand_of, subcommand_rows_of}
use Rattle.clap.specs.Values.{kind_of}
use Rattle.clap.specs.Walk.{Held, Names, Row, Text, finished, settled, walk, walk_from}
use Rattle.clap.specs.declared.error.Error.{Error}
use Rattle.clap.specs.declared.parser.matches.ArgMatches.{ArgMatches}
use Rattle.clap.specs.declared.parser.matches.ArgMatches.TheViews.{out-ArgMatches}
use Rattle.job_kinds.specs.declared.job.Job.{Job}
use Rattle.job_commands.specs.Commands.{FailsByKind, TellsError, WordsAsk, WordsFail, command_in, precopy_line}
use Rattle.job_commands.specs.Jobs.{AsksForJob, RefusesJob}
use Rattle.job_commands.specs.declared.command.WordsError.{WordsError}
use Rattle.job_commands.specs.declared.command.WordsError.TheVariants.{Help, Memory, Refused, Usage}

pub line_is_simple : is_simple precopy_line ≡ true
unfolding precopy_line clap_on_literals
line_is_simple = refl

pub line_is_free : is_simple_and_free precopy_line ≡ true
unfolding precopy_line clap_on_literals
line_is_free = refl

line_requires : (built precopy_line).top.subcommand_required ≡ true
unfolding precopy_line clap_on_literals
line_requires = refl

-- a clap error is reported by its kind
pub fails_by_kind : (line : App) (words : List Text) (e : Error) (r : WordsError) → HasKind (fault_of line words) e
    → TellsError (kind_of e) r → FailsByKind line words r
fails_by_kind line words e Memory kinds tells = tt
fails_by_kind line words e (Help text) (inl memory) tells = absurd (tells.0 memory)
fails_by_kind line words e (Help text) (inr among) tells = (kind_of e, among, tells.1)
fails_by_kind line words e (Usage text) (inl memory) tells = absurd (tells.0 memory)
fails_by_kind line words e (Usage text) (inr among) tells = (kind_of e, among, tells.1)
fails_by_kind line words e (Refused refusal) kinds tells = absurd tells

named_rows : {B : Type 0} (f : B → Text) (g : B → List Row) (x : Option B) (name : Text) (rows : List Row)
    → Some name ≡ option_map f x
    → Some rows ≡ option_map {T = Text × List Row} {U = List Row} (λ p. p.1)
    (option_map {T = B} {U = Text × List Row} (λ b. (f b, g b)) x)
    → option_map {T = B} {U = Text × List Row} (λ b. (f b, g b)) x ≡ Some (name, rows)
named_rows f g None name rows a b = absurd cc
named_rows f g (Some y) name rows a b =
    let same_name : f y ≡ name = cc in
    let same_rows : g y ≡ rows = cc in
    λ i. Some (same_name i, same_rows i)

-- the last step of a parse does not fail if none does
last_of : (a b c d e : Kinds) → or_else a (or_else b (or_else c (or_else d e))) ≡ [] → e ≡ []
last_of [] [] [] [] e none = none
last_of [] [] [] (k ∷ ks) e none = absurd cc
last_of [] [] (k ∷ ks) d e none = absurd cc
last_of [] (k ∷ ks) c d e none = absurd cc
last_of (k ∷ ks) b c d e none = absurd cc

wants_command : (help wants argument : Bool) → wants ≡ true → check_kinds help wants argument ≡ [] → ⊥
wants_command true wants argument is none = cc
wants_command false true argument is none = cc
wants_command false false argument is none = cc

required_there : (s : Shape) (names : Names) (h : Held) (words : List Text) (there : Bool) (below : Kinds)
    → s.subcommand_required ≡ true → level_fault s names h words there below ≡ [] → there ≡ true
required_there s names h words true below required none = refl
required_there s names h words false below required none =
    let end = (walk s.rules names h words).held in
    absurd (wants_command _ s.subcommand_required _ required
    (last_of (walk_fault s names (walk_from h) words) below (settle_fault s.rules s.args_override_self end)
    (defaults_fault (settled s.rules end).rows s.rules) (check_fault s (finished s.rules end) false) none))

mapped : {A B : Type 0} (f : A → B) (x : Option A) → is_some (option_map f x) ≡ is_some x
mapped f None = refl
mapped f (Some a) = refl

module _ (line : App) (simple : is_simple line ≡ true) where
  -- the command that was met, and what was found after it
  pub command_met_on : (made : App) (words : List Text) (m : ArgMatches) (name : Text) (rows : List Row) → made ≡ line
      → HasMatchesOf made words m → Some name ≡ subcommand_name_of m
      → Some rows ≡ option_map {T = Text × List Row} {U = List Row} (λ p. p.1) (subcommand_rows_of m)
      → subcommand_of line words ≡ Some (name, rows)
  command_met_on made words m name rows is has named rowed =
      ap (λ (a : App). subcommand_of a words) (sym is) ∙ sym (has (ap is_simple is ∙ simple)).1
      ∙ named_rows _ _ (out-ArgMatches m).subcommand name rows named rowed

  -- if a command is required, words without one are not taken
  pub not_taken_on : (built line).top.subcommand_required ≡ true → (made : App) (words : List Text) (m : ArgMatches)
      → made ≡ line → HasMatchesOf made words m → false ≡ has_subcommand m → fault_of line words ≡ [] → ⊥
  not_taken_on required made words m is has none taken =
      let entered : is_some (subcommand_of line words) ≡ true =
      required_there (built line).top _ _ _ _ _ required taken in
      let same : subcommand_of line words ≡ subcommand_rows_of m = ap (λ (a : App). subcommand_of a words) (sym is)
      ∙ sym (has (ap is_simple is ∙ simple)).1 in
      let all = sym entered ∙ ap (λ (x : Option (Text × List Row)). is_some x) same
      ∙ mapped _ (out-ArgMatches m).subcommand ∙ sym none in
      cc

pub command_met : (made : App) (words : List Text) (m : ArgMatches) (name : Text) (rows : List Row)
    → made ≡ precopy_line → HasMatchesOf made words m → Some name ≡ subcommand_name_of m
    → Some rows ≡ option_map {T = Text × List Row} {U = List Row} (λ p. p.1) (subcommand_rows_of m)
    → command_in words ≡ Some (name, rows)
command_met = command_met_on precopy_line line_is_simple

pub not_taken : (made : App) (words : List Text) (m : ArgMatches) → made ≡ precopy_line → HasMatchesOf made words m
    → false ≡ has_subcommand m → fault_of precopy_line words ≡ [] → ⊥
not_taken = not_taken_on precopy_line line_is_simple line_requires

pub asks : (words : List Text) (r : Result Job WordsError) (name : Text) (rows : List Row)
    → fault_of precopy_line words ≡ [] → command_in words ≡ Some (name, rows) → IfOk r (λ job. AsksForJob name rows job)
    → IfOk r (λ job. WordsAsk words job)
asks words (Ok job) name rows taken command asked = record {
  taken = taken;
  name = name;
  rows = rows;
  command = command;
  asks = asked;
}
asks words (Err e) name rows taken command asked = tt

fails : (words : List Text) (e : WordsError) (name : Text) (rows : List Row) → fault_of precopy_line words ≡ []
    → command_in words ≡ Some (name, rows) → RefusesJob name rows e → WordsFail words e
fails words Memory name rows taken command refused = tt
fails words (Help text) name rows taken command refused = absurd refused
fails words (Usage text) name rows taken command refused = absurd refused
fails words (Refused refusal) name rows taken command refused =
    record { taken = taken; name = name; rows = rows; command = command; refused = refused }

pub refuses : (words : List Text) (r : Result Job WordsError) (name : Text) (rows : List Row)
    → fault_of precopy_line words ≡ [] → command_in words ≡ Some (name, rows) → IfErr r (λ e. RefusesJob name rows e)
    → IfErr r (λ e. WordsFail words e)
refuses words (Ok job) name rows taken command refused = tt
refuses words (Err e) name rows taken command refused = fails words e name rows taken command refused
