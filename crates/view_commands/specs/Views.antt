-- Which view a command asks for, by its name and by what clap found after it, and why it is refused.
use Rattle.std.specs.Prelude.{◌≡◌, ◌⊎◌, ℕ, Bool, List, Option, Some, MatchOption, [], ⊤, codes}
use Rattle.clap.specs.Faults.{fault_of}
use Rattle.clap.specs.Simple.{App, subcommand_of}
use Rattle.clap.specs.Walk.{Row, Text}
use Rattle.migration_model.specs.Rates.{MigrationSettings}
use Rattle.job_commands.specs.Commands.{FailsByKind}
use Rattle.job_commands.specs.Jobs.{AsksForCases, SweepFails}
use Rattle.job_commands.specs.Options.{Says}
use Rattle.job_commands.specs.declared.command.WordsError.{WordsError}
use Rattle.job_commands.specs.declared.command.WordsError.TheVariants as errors
use Rattle.predictions.specs.Units.Scales.{TraceScale}
use Rattle.predictions.specs.declared.units.limits.Limits.{Limits}
use Rattle.view_kinds.specs.declared.view.AskedPrediction.{AskedPrediction}
use Rattle.view_kinds.specs.declared.view.PredictionForm.{PredictionForm}
use Rattle.view_kinds.specs.declared.view.PredictionForm.TheVariants as predictions
use Rattle.view_kinds.specs.declared.view.StartsForm.TheVariants as forms
use Rattle.view_kinds.specs.declared.view.View.{View}
use Rattle.view_kinds.specs.declared.view.View.TheVariants as views
use Rattle.view_commands.specs.Measures.{AsksForMeasure, AsksForScale, RefusesMeasure, RefusesScaleWords}
use Rattle.view_commands.specs.Advice.{AsksForAdvice, RefusesAdvice}
use Rattle.view_commands.specs.Commands.{json_line, json_words, view_line}
use Rattle.view_commands.specs.Manners.{AsksForMigration, RefusesMigration}
use Rattle.view_commands.specs.Starts.{AsksForForm, AsksForStarts, RefusesStarts}
use Rattle.view_commands.specs.Styles.{AsksForStyle, IsColorRefused, IsWidthRefused}
use Rattle.view_commands.specs.Usage.{IsUsage}
use Rattle.view_commands.specs.declared.command.AskedView.{AskedView}
use Rattle.view_commands.specs.declared.command.ViewWordsError.{ViewWordsError}
use Rattle.view_commands.specs.declared.command.ViewWordsError.TheVariants as asked

-- the options ask for these settings, in either kind of words, and for this scale
abbrev pub AsksToMeasure : List Row → MigrationSettings → Option TraceScale → Type 0
AsksToMeasure rows settings scale = (limits : Option Limits) × AsksForMeasure rows settings scale limits

-- the options ask for a prediction of a migration with limits, in this form
pub record AsksForPrediction (rows : List Row) (form : PredictionForm) (asked : AskedPrediction) : Type 0 where
  pub migration : AsksForMigration rows asked.settings asked.scale asked.limits asked.manner
  pub increment : Says rows (codes "inc") asked.increment
  pub form_is : asked.form ≡ form

-- A command of this name, with what clap found after it, asks for this view, and for this scale if it has units.
-- `terminal` is whether standard output is one.
abbrev pub AsksForView : Bool → Text → List Row → View → Option TraceScale → Type 0
AsksForView terminal name rows (views.JsonReport settings shown) scale = ⊥
AsksForView terminal name rows (views.JsonSweep cases workers shown) scale = ⊥
AsksForView terminal name rows (views.Advise budget settings known) scale =
    (name ≡ codes "advise") × AsksForAdvice rows budget settings known scale
AsksForView terminal name rows (views.Show settings shown style) scale =
    (name ≡ codes "show") × AsksToMeasure rows settings scale × AsksForStyle terminal rows style × (shown ≡ scale)
AsksForView terminal name rows (views.Chart settings shown) scale =
    (name ≡ codes "chart") × AsksToMeasure rows settings scale × (shown ≡ scale)
AsksForView terminal name rows (views.Predict asked) scale =
    (name ≡ codes "predict") × AsksForPrediction rows predictions.Lines asked × (scale ≡ Some asked.scale)
AsksForView terminal name rows (views.When asked) scale =
    (name ≡ codes "when") × AsksForStarts rows asked.form asked × AsksForForm rows asked.form
    × (scale ≡ Some asked.scale)

-- A command of this name below `json` asks for this document, and for this scale if it has units.
abbrev pub AsksForDocument : Text → List Row → View → Option TraceScale → Type 0
AsksForDocument name rows (views.JsonReport settings shown) scale =
    (name ≡ codes "report") × AsksToMeasure rows settings scale × (shown ≡ scale)
AsksForDocument name rows (views.JsonSweep cases workers shown) scale =
    (name ≡ codes "sweep") × AsksForCases rows cases.items workers × AsksForScale rows scale × (shown ≡ scale)
AsksForDocument name rows (views.Advise budget settings known) scale = ⊥
AsksForDocument name rows (views.Show settings shown style) scale = ⊥
AsksForDocument name rows (views.Chart settings shown) scale = ⊥
AsksForDocument name rows (views.Predict asked) scale =
    (name ≡ codes "predict") × AsksForPrediction rows predictions.Json asked × (scale ≡ Some asked.scale)
AsksForDocument name rows (views.When asked) scale =
    (name ≡ codes "when") × AsksForStarts rows forms.Json asked × (scale ≡ Some asked.scale)

-- what is told of a width that is out of range, of another word for colors, and of words without a command
abbrev pub width_text : List ℕ
width_text = codes "error: the width is not 72 to 512\n"

abbrev pub color_text : List ℕ
color_text = codes "error: --color: auto, always or never\n"

abbrev pub command_text : List ℕ
command_text = codes "error: a command is required\n"

-- settings in either kind of words are refused for this
abbrev pub RefusesSettings : List Row → ViewWordsError → Type 0
RefusesSettings rows (asked.Words e) = ⊥
RefusesSettings rows (asked.Limits e) = RefusesMeasure rows e

-- the options of a prediction are refused for this
abbrev pub RefusesPrediction : List Row → ViewWordsError → Type 0
RefusesPrediction rows (asked.Words e) = ⊥
RefusesPrediction rows (asked.Limits e) = RefusesMigration rows e

-- the document of a sweep fails for its cases or its scale
abbrev pub RefusesSweepWords : List Row → ViewWordsError → Type 0
RefusesSweepWords rows (asked.Words e) = SweepFails rows e
RefusesSweepWords rows (asked.Limits e) = RefusesScaleWords rows e

-- how a report for a terminal is to be shown is refused for this
abbrev pub RefusesLook : List Row → ViewWordsError → Type 0
RefusesLook rows e =
    (IsUsage width_text e × IsWidthRefused rows) ⊎ (IsUsage color_text e × IsColorRefused rows)

-- A command of this name is refused for this. `json` is one if it does not come right after the program's name.
abbrev pub RefusesView : Text → List Row → ViewWordsError → Type 0
RefusesView name rows e = ((name ≡ codes "advise") × RefusesAdvice rows e)
    ⊎ (((name ≡ codes "show") × (RefusesSettings rows e ⊎ RefusesLook rows e))
    ⊎ (((name ≡ codes "chart") × RefusesSettings rows e)
    ⊎ (((name ≡ codes "predict") × RefusesPrediction rows e)
    ⊎ (((name ≡ codes "when") × RefusesStarts rows e) ⊎ ((name ≡ codes "json") × IsUsage command_text e)))))

-- a command of this name below `json` is refused for this
abbrev pub RefusesDocument : Text → List Row → ViewWordsError → Type 0
RefusesDocument name rows e = ((name ≡ codes "report") × RefusesSettings rows e)
    ⊎ (((name ≡ codes "sweep") × RefusesSweepWords rows e)
    ⊎ (((name ≡ codes "predict") × RefusesPrediction rows e) ⊎ ((name ≡ codes "when") × RefusesStarts rows e)))

-- ---- whole command lines

-- A command line takes the words, and they name a command for which this holds. `fault_of` is clap's: the kinds of
-- error that it finds in words, none if it takes them.
pub record Names (line : App) (words : List Text) (Holds : Text → List Row → Type 0) : Type 0 where
  pub taken : fault_of line words ≡ []
  pub name : Text
  pub rows : List Row
  pub command : subcommand_of line words ≡ Some (name, rows)
  pub holds : Holds name rows

-- the words, the first being the program's name, ask for this view, at a terminal or elsewhere
abbrev pub WordsAsk : Bool → List Text → AskedView → Type 0
WordsAsk terminal words view = MatchOption (json_words words)
    (Names view_line words (λ name rows. AsksForView terminal name rows view.view view.scale))
    (λ below. Names json_line below (λ name rows. AsksForDocument name rows view.view view.scale))

-- what a clap refusal says about words
abbrev pub FailsOn : App → List Text → ViewWordsError → Type 0
FailsOn line words (asked.Words e) = FailsByKind line words e
FailsOn line words (asked.Limits e) = ⊥

-- memory ran out
abbrev pub IsOutOfMemory : ViewWordsError → Type 0
IsOutOfMemory e = e ≡ asked.Words errors.Memory

-- Why words make no view: memory ran out, clap asks for help in them or does not take them, or their command is
-- refused.
abbrev pub WordsFail : List Text → ViewWordsError → Type 0
WordsFail words e = IsOutOfMemory e ⊎ MatchOption (json_words words)
    (FailsOn view_line words e ⊎ Names view_line words (λ name rows. RefusesView name rows e))
    (λ below. FailsOn json_line below e ⊎ Names json_line below (λ name rows. RefusesDocument name rows e))
