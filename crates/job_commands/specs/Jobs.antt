-- Which job a command asks for, by its name and by what clap found after it, and why it is refused.
use Rattle.std.specs.Prelude.{◌≡◌, ◌≤◌, ◌⊎◌, ℕ, true, false, List, [], ⊤, codes, length, unwrap_or}
use Rattle.clap.specs.Walk.{Row, Text, all_of}
use Rattle.migration_model.specs.Rates.{MigrationSettings}
use Rattle.job_kinds.specs.declared.job.Job.{Job}
use Rattle.job_kinds.specs.declared.job.Job.TheVariants as jobs
use Rattle.job_kinds.specs.declared.job.Show.{Show}
use Rattle.job_kinds.specs.declared.job.Show.TheVariants as shows
use Rattle.job_commands.specs.declared.command.WordsError.{WordsError}
use Rattle.job_commands.specs.declared.command.WordsError.TheVariants as errors
use Rattle.job_commands.specs.declared.command.WordsRefusal.{WordsRefusal}
use Rattle.job_commands.specs.declared.command.WordsRefusal.TheVariants as refusals
use Rattle.job_commands.specs.Cases.{AreCases, RefusesCases}
use Rattle.job_commands.specs.Options.{AreRefused, AsksFor, AsksForSweep, IsFlag}

-- the words of the cases
abbrev pub case_words : List Row → List Text
case_words rows = unwrap_or (all_of (codes "case") rows) []

-- the memory that the options of a live run ask for: that at the stop, if the flag `at-stop` is present
abbrev pub AsksToShow : List Row → Show → Type 0
AsksToShow rows shows.Stop = IsFlag rows (codes "at-stop") true
AsksToShow rows shows.End = IsFlag rows (codes "at-stop") false

-- the options and the cases of a sweep ask for these settings, and for this many workers
pub record AsksForCases (rows : List Row) (cases : List MigrationSettings) (workers : ℕ) : Type 0 where
  pub options : MigrationSettings
  pub asked : AsksForSweep rows options
  pub are_cases : AreCases options (case_words rows) cases
  pub few : length cases ≤ 256
  pub workers_are : workers ≡ options.workers

-- the name of a command of `precopy`
abbrev pub IsCommand : Text → Type 0
IsCommand name = (name ≡ codes "image") ⊎ ((name ≡ codes "report") ⊎ ((name ≡ codes "live") ⊎ (name ≡ codes "sweep")))

-- a command of this name, with what clap found after it, asks for this job
abbrev pub AsksForJob : Text → List Row → Job → Type 0
AsksForJob name rows jobs.Image = name ≡ codes "image"
AsksForJob name rows (jobs.Report settings) = (name ≡ codes "report") × AsksFor rows settings
AsksForJob name rows (jobs.Live settings show) = (name ≡ codes "live") × AsksFor rows settings × AsksToShow rows show
AsksForJob name rows (jobs.Sweep cases workers) = (name ≡ codes "sweep") × AsksForCases rows cases.items workers

-- the cases of a sweep are refused for this
pub record RefusesSweep (rows : List Row) (refusal : WordsRefusal) : Type 0 where
  pub options : MigrationSettings
  pub asked : AsksForSweep rows options
  pub refused : RefusesCases options (case_words rows) refusal

-- a sweep has no cases: they are refused, or memory ran out
abbrev pub SweepFails : List Row → WordsError → Type 0
SweepFails rows errors.Memory = ⊤
SweepFails rows (errors.Help text) = ⊥
SweepFails rows (errors.Usage text) = ⊥
SweepFails rows (errors.Refused refusal) = RefusesSweep rows refusal

-- A command of this name is refused for this: the settings of `report` or `live`, or the cases of `sweep`.
abbrev pub RefusesCommand : Text → List Row → WordsRefusal → Type 0
RefusesCommand name rows (refusals.Settings e) = ((name ≡ codes "report") ⊎ (name ≡ codes "live")) × AreRefused rows e
RefusesCommand name rows refusals.TooManyCases = (name ≡ codes "sweep") × RefusesSweep rows refusals.TooManyCases
RefusesCommand name rows (refusals.Case place) = (name ≡ codes "sweep") × RefusesSweep rows (refusals.Case place)
RefusesCommand name rows (refusals.CaseSettings place e) =
    (name ≡ codes "sweep") × RefusesSweep rows (refusals.CaseSettings place e)

-- the command is refused for a cause in its words, or memory ran out
abbrev pub RefusesJob : Text → List Row → WordsError → Type 0
RefusesJob name rows errors.Memory = ⊤
RefusesJob name rows (errors.Help text) = ⊥
RefusesJob name rows (errors.Usage text) = ⊥
RefusesJob name rows (errors.Refused refusal) = RefusesCommand name rows refusal
