-- What a view of a trace shows.
use Rattle.std.specs.Prelude.{◌≡◌, ℕ, ◌^◌, List, [], ◌++◌, length, slice_index_or, Option, None, Some}
use Rattle.predictions.specs.Redrawn.Errors.{SampleErrors}
use Rattle.predictions.specs.Units.Scales.{TraceScale}
use Rattle.migration_model.specs.Rates.{MigrationSettings}
use Rattle.migration_model.specs.Rounds.{IsPlan, MigrationPlan}
use Rattle.migration_model.specs.Sweeps.{SweepLine, AreLines}
use Rattle.migration_model.specs.Touches.{GuestTouches, last_tick_of}
use Rattle.migration_model.specs.Windows.{working_sets_of}
use Rattle.predictions.specs.declared.verdict.Verdict.{Verdict}
use Rattle.predictions.specs.declared.verdict.Verdict.TheVariants.{Unknown, Yes}
use Rattle.report_pictures.specs.MeasuredScreens.{IsMeasuredScreen}
use Rattle.report_pictures.specs.ReportCharts.{IsReportChart}
use Rattle.report_pictures.specs.Screens.{IsScreen}
use Rattle.view_kinds.specs.declared.style.Style.{Style}
use Rattle.trace_views.specs.Advice.{AreCaseErrors, IsAdvice}
use Rattle.trace_views.specs.AdviceText.{advice_head, case_of, choice_text, known_cost}
use Rattle.trace_views.specs.Grid.{cases_for, grid_of}
use Rattle.trace_views.specs.Json.{line_of, report_object, sweep_object}
use Rattle.trace_views.specs.PredictionViews.{IsPredictionView}
use Rattle.trace_views.specs.StartViews.{IsStartsView, RefusesStartsView}
use Rattle.trace_views.specs.declared.advice.Advice.{Advice}
use Rattle.trace_views.specs.declared.advice.Advice.TheVariants as advices
use Rattle.view_kinds.specs.declared.budget.Budget.{Budget}
use Rattle.trace_views.specs.declared.error.ViewError.{ViewError}
use Rattle.trace_views.specs.declared.error.ViewError.TheVariants.{Memory}
use Rattle.view_kinds.specs.declared.view.Measured.{Measured}
use Rattle.view_kinds.specs.declared.view.View.{View}
use Rattle.view_kinds.specs.declared.view.View.TheVariants as views

-- the facts of a report, as a JSON document: the working sets and the plan, also in times and bytes if it is known what
-- ticks and pages stand for
pub record IsReportView (log : GuestTouches) (settings : MigrationSettings) (scale : Option TraceScale)
    (text : List ℕ) : Type 0 where
  pub plan : MigrationPlan
  pub is_plan : IsPlan log.pages log.touches settings plan
  pub text_is : text
      ≡ line_of (report_object log.shift log.pages (length log.touches) settings scale
      (working_sets_of log.pages log.touches settings) plan)

-- the facts of a sweep, as a JSON document: the sums of each case's plan, also in times and bytes if it is known what
-- ticks and pages stand for, and the best of them
pub record IsSweepView (log : GuestTouches) (cases : List MigrationSettings) (scale : Option TraceScale)
    (text : List ℕ) : Type 0 where
  pub lines : List SweepLine
  pub are_lines : AreLines log.pages log.touches cases lines
  pub text_is : text ≡ line_of (sweep_object scale lines)

-- what is told of a case to take, with the errors that it has
pub record IsCaseTold (log : GuestTouches) (measured : Option Measured) (lines : List SweepLine) (case : ℕ)
    (errors : Option SampleErrors) (text : List ℕ) : Type 0 where
  pub chosen : SweepLine
  pub is_chosen : chosen ≡ slice_index_or lines case chosen
  pub errors_are : AreCaseErrors log measured chosen errors
  pub text_is : text ≡ choice_text case chosen (known_cost measured chosen (last_tick_of log.touches)) errors

-- that, or nothing if there is no case to take
abbrev pub IsChoiceTold : GuestTouches → Option Measured → List SweepLine → Option ℕ → Option SampleErrors → List ℕ
    → Type 0
IsChoiceTold log measured lines None errors text = (errors ≡ None) × (text ≡ [])
IsChoiceTold log measured lines (Some case) errors text = IsCaseTold log measured lines case errors text

-- whether advice is known
abbrev pub advice_verdict : Advice → Verdict
advice_verdict (advices.Fits case) = Yes
advice_verdict (advices.OverTotal nearest cheapest) = Yes
advice_verdict (advices.OverDown nearest) = Yes
advice_verdict advices.Unknown = Unknown

-- a text of advice for a budget: the budget, the grid, and the case to take of those around some settings, each planned
-- by itself, with its errors
pub record IsAdviceView (log : GuestTouches) (settings : MigrationSettings) (budget : Budget)
    (measured : Option Measured) (text : List ℕ) (kept : Verdict) : Type 0 where
  pub lines : List SweepLine
  pub are_lines : AreLines log.pages log.touches (cases_for settings budget) lines
  pub advice : Advice
  pub is_advice : IsAdvice log measured budget lines advice
  pub errors : Option SampleErrors
  pub choice : List ℕ
  pub told : IsChoiceTold log measured lines (case_of advice) errors choice
  pub text_is : text
      ≡ advice_head budget settings (grid_of settings budget) (length lines) advice errors ++ choice
  pub kept_is : kept ≡ advice_verdict advice

-- a report for a terminal, in times and bytes of the guest if it is known what ticks and pages stand for
abbrev pub IsScreenOf : Style → Option TraceScale → GuestTouches → MigrationSettings → MigrationPlan → List ℕ → Type 0
IsScreenOf style None log settings plan text = IsScreen style log.pages (2 ^ log.shift) (length log.touches) settings
    (working_sets_of log.pages log.touches settings) plan text
IsScreenOf style (Some scale) log settings plan text = IsMeasuredScreen style scale log.pages (2 ^ log.shift)
    (length log.touches) settings (working_sets_of log.pages log.touches settings) plan text

-- the facts of a report, for a terminal
pub record IsShownView (log : GuestTouches) (settings : MigrationSettings) (scale : Option TraceScale)
    (style : Style) (text : List ℕ) : Type 0 where
  pub plan : MigrationPlan
  pub is_plan : IsPlan log.pages log.touches settings plan
  pub screen : IsScreenOf style scale log settings plan text

-- the facts of a report, as a picture
pub record IsChartView (log : GuestTouches) (settings : MigrationSettings) (scale : Option TraceScale)
    (text : List ℕ) : Type 0 where
  pub plan : MigrationPlan
  pub is_plan : IsPlan log.pages log.touches settings plan
  pub chart : IsReportChart log.pages (2 ^ log.shift) (length log.touches) settings scale
      (working_sets_of log.pages log.touches settings) plan text

-- what a view shows about a trace, and whether its limit is kept, if it has one
abbrev pub IsView : GuestTouches → View → List ℕ → Verdict → Type 0
IsView log (views.JsonReport settings scale) text kept = IsReportView log settings scale text × (kept ≡ Yes)
IsView log (views.JsonSweep cases workers scale) text kept =
    IsSweepView log cases.items scale text × (kept ≡ Yes)
IsView log (views.Advise budget settings measured) text kept =
    IsAdviceView log settings budget measured text kept
IsView log (views.Show settings scale style) text kept =
    IsShownView log settings scale style text × (kept ≡ Yes)
IsView log (views.Chart settings scale) text kept = IsChartView log settings scale text × (kept ≡ Yes)
IsView log (views.When asked) text kept = IsStartsView log asked text kept
IsView log (views.Predict asked) text kept = IsPredictionView log asked text kept

-- why a view cannot be made: memory ran out, or its starts are refused
abbrev pub RefusesView : GuestTouches → View → ViewError → Type 0
RefusesView log (views.JsonReport settings scale) e = e ≡ Memory
RefusesView log (views.JsonSweep cases workers scale) e = e ≡ Memory
RefusesView log (views.Advise budget settings measured) e = e ≡ Memory
RefusesView log (views.Show settings scale style) e = e ≡ Memory
RefusesView log (views.Chart settings scale) e = e ≡ Memory
RefusesView log (views.Predict asked) e = e ≡ Memory
RefusesView log (views.When asked) e = RefusesStartsView log asked e
