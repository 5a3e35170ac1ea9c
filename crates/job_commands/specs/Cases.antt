-- The cases of a sweep, as words, and why words are refused. This project's own.
use Rattle.std.specs.Prelude.{◌≡◌, ℕ, ◌<◌, ◌≤◌, if◌then◌else◌, List, [], ◌∷◌, length, take, slice_get, Some, All, ⊤}
use Rattle.std.specs.List.{AllZip, join_with_byte}
use Rattle.std.specs.Str.Parse.{IsNumeral, digits_value}
use Rattle.migration_model.specs.Rates.{AreSettings, MigrationSettings}
use Rattle.rate_limit.specs.Refusals.{refusal_of}
use Rattle.rate_limit.specs.declared.error.SettingsError.{SettingsError}
use Rattle.job_commands.specs.declared.command.WordsError.{WordsError}
use Rattle.job_commands.specs.declared.command.WordsError.TheVariants as errors
use Rattle.job_commands.specs.declared.command.WordsRefusal.{WordsRefusal}
use Rattle.job_commands.specs.declared.command.WordsRefusal.TheVariants as refusals

-- a number of a case: 1 to 13 decimal digits
pub record IsNumber (text : List ℕ) (n : ℕ) : Type 0 where
  pub digits : IsNumeral 10 text
  pub short : length text ≤ 13
  pub value : digits_value 10 text ≡ n

-- numbers joined by commas (44)
pub record SpellsNumbers (word numbers : List ℕ) : Type 0 where
  pub texts : List (List ℕ)
  pub joined : word ≡ join_with_byte 44 texts
  pub are_numbers : AllZip IsNumber texts numbers

-- the six numbers of a case: the last is 1 if pages are skipped, else 0
abbrev pub numbers_in : MigrationSettings → List ℕ
numbers_in s = s.min ∷ s.max ∷ s.increment ∷ s.threshold ∷ s.rounds ∷ (if s.skip then 1 else 0) ∷ []

-- The word is a case that asks for these settings: its six numbers are six of them, and the others are the options'.
pub record IsCase (options : MigrationSettings) (word : List ℕ) (asked : MigrationSettings) : Type 0 where
  pub spelled : SpellsNumbers word (numbers_in asked)
  pub others : asked ≡ record options {
    min = asked.min;
    max = asked.max;
    increment = asked.increment;
    threshold = asked.threshold;
    rounds = asked.rounds;
    skip = asked.skip;
  }

-- the words are cases, in order, that ask for these settings, and all of the settings are accepted
pub record AreCases (options : MigrationSettings) (words : List (List ℕ)) (cases : List MigrationSettings)
    : Type 0 where
  pub each : AllZip (IsCase options) words cases
  pub in_range : All AreSettings cases

-- all words before this place are cases that are accepted, and this holds of the word there
pub record IsFirst (Holds : List ℕ → Type 0) (options : MigrationSettings) (words : List (List ℕ)) (place : ℕ)
    : Type 0 where
  pub before : List MigrationSettings
  pub accepted : AreCases options (take place words) before
  pub word : List ℕ
  pub is_word : slice_get words place ≡ Some word
  pub holds : Holds word

-- the word is not a case, whatever it would ask for
abbrev pub IsNoCase : MigrationSettings → List ℕ → Type 0
IsNoCase options word = (asked : MigrationSettings) → ¬ IsCase options word asked

-- the word is a case whose settings are refused for this
abbrev pub IsRefusedCase : MigrationSettings → SettingsError → List ℕ → Type 0
IsRefusedCase options e word = (asked : MigrationSettings) × IsCase options word asked × (refusal_of asked ≡ Some e)

-- why the word in this place is refused: it is not a case, or its settings are refused
abbrev pub RefusesCase : MigrationSettings → ℕ → List ℕ → WordsRefusal → Type 0
RefusesCase options place word (refusals.Case k) = (k ≡ place) × IsNoCase options word
RefusesCase options place word (refusals.CaseSettings k e) = (k ≡ place) × IsRefusedCase options e word
RefusesCase options place word (refusals.Settings e) = ⊥
RefusesCase options place word refusals.TooManyCases = ⊥

-- Why the words are refused: there are more than 256, or else this one is the first that is refused.
abbrev pub RefusesCases : MigrationSettings → List (List ℕ) → WordsRefusal → Type 0
RefusesCases options words refusals.TooManyCases = 256 < length words
RefusesCases options words (refusals.Case place) =
    (length words ≤ 256) × IsFirst (IsNoCase options) options words place
RefusesCases options words (refusals.CaseSettings place e) =
    (length words ≤ 256) × IsFirst (IsRefusedCase options e) options words place
RefusesCases options words (refusals.Settings e) = ⊥

-- the words are refused for a cause in them, or memory ran out
abbrev pub RefusesWords : MigrationSettings → List (List ℕ) → WordsError → Type 0
RefusesWords options words errors.Memory = ⊤
RefusesWords options words (errors.Help text) = ⊥
RefusesWords options words (errors.Usage text) = ⊥
RefusesWords options words (errors.Refused refusal) = RefusesCases options words refusal
