-- What the options of a command ask for. An option is named by its text, as clap finds it in the words.
use Rattle.std.specs.Prelude.{◌≡◌, ℕ, ◌<◌, ◌^◌, Bool, true, false, List, Option, Some, None, MatchOption}
use Rattle.std.specs.Prelude.{codes, unwrap_or}
use Rattle.std.specs.Str.Parse.{IsNumeral, digits_value, without_leading_plus}
use Rattle.clap.specs.Walk.{Row, one_of}
use Rattle.migration_model.specs.Rates.{MigrationSettings}
use Rattle.rate_limit.specs.Refusals.{refusal_of}
use Rattle.rate_limit.specs.declared.error.SettingsError.{SettingsError}

-- the text reads as this number below 2^64: decimal digits, with or without a plus before them
pub record Reads (text : List ℕ) (n : ℕ) : Type 0 where
  pub digits : IsNumeral 10 (without_leading_plus text)
  pub value : digits_value 10 (without_leading_plus text) ≡ n
  pub fits : n < 2 ^ 64

-- The number that an option has, if it is present and its text reads as one. clap refuses other texts beforehand.
abbrev pub Says : List Row → List ℕ → Option ℕ → Type 0
Says rows name (Some n) = (text : List ℕ) × (one_of name rows ≡ Some text) × Reads text n
Says rows name None = (text : List ℕ) (n : ℕ) → one_of name rows ≡ Some text → ¬ Reads text n

-- the number that an option has, or the default if it has none
pub record IsGiven (rows : List Row) (name : List ℕ) (default n : ℕ) : Type 0 where
  pub said : Option ℕ
  pub says : Says rows name said
  pub is_number : n ≡ unwrap_or said default

-- whether a flag is present: clap writes `true` if it is, and `false` if it is not
abbrev pub IsFlag : List Row → List ℕ → Bool → Type 0
IsFlag rows name there = MatchOption (one_of name rows) (there ≡ false)
    (λ text. (text ≡ codes "true" → there ≡ true) × (text ≡ codes "false" → there ≡ false))

-- the settings if no option is given
abbrev pub defaults : MigrationSettings
defaults = record {
  min = 1000;
  max = 5000;
  increment = 500;
  threshold = 64;
  rounds = 30;
  start = 0;
  window = 1000;
  hot = 2;
  workers = 1;
  streams = 1;
  replayers = 1;
  lane = 1024;
  skip = false;
  base = None;
}

-- the options ask for these settings
pub record AsksFor (rows : List Row) (asked : MigrationSettings) : Type 0 where
  pub min : IsGiven rows (codes "min") defaults.min asked.min
  pub max : IsGiven rows (codes "max") defaults.max asked.max
  pub increment : IsGiven rows (codes "inc") defaults.increment asked.increment
  pub threshold : IsGiven rows (codes "threshold") defaults.threshold asked.threshold
  pub rounds : IsGiven rows (codes "rounds") defaults.rounds asked.rounds
  pub start : IsGiven rows (codes "start") defaults.start asked.start
  pub window : IsGiven rows (codes "window") defaults.window asked.window
  pub hot : IsGiven rows (codes "hot") defaults.hot asked.hot
  pub workers : IsGiven rows (codes "workers") defaults.workers asked.workers
  pub streams : IsGiven rows (codes "streams") defaults.streams asked.streams
  pub replayers : IsGiven rows (codes "replayers") defaults.replayers asked.replayers
  pub lane : IsGiven rows (codes "lane") defaults.lane asked.lane
  pub skip : IsFlag rows (codes "skip") asked.skip
  pub base : Says rows (codes "base") asked.base

-- the options of a sweep ask for these settings in each case: a start, workers and a base, and otherwise the defaults
pub record AsksForSweep (rows : List Row) (asked : MigrationSettings) : Type 0 where
  pub start : IsGiven rows (codes "start") defaults.start asked.start
  pub workers : IsGiven rows (codes "workers") defaults.workers asked.workers
  pub base : Says rows (codes "base") asked.base
  pub others : asked ≡ record defaults { start = asked.start; workers = asked.workers; base = asked.base }

-- the options ask for settings that are refused for this
abbrev pub AreRefused : List Row → SettingsError → Type 0
AreRefused rows e = (asked : MigrationSettings) × AsksFor rows asked × (refusal_of asked ≡ Some e)
