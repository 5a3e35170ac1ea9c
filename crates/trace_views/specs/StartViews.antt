-- What the same migration costs from each of some starts.
use Rattle.std.specs.Prelude.{◌≡◌, ℕ, ◌≤◌, List, length, Option, None, Some}
use Rattle.migration_model.specs.Touches.{GuestTouches, last_tick_of}
use Rattle.migration_model.specs.Windows.{working_sets_of}
use Rattle.predictions.specs.Starts.Cases.{AreCases}
use Rattle.predictions.specs.Starts.Choices.{IsBest, IsChosen, is_worse_start, known_of}
use Rattle.predictions.specs.Starts.Costs.{CostAtStart, costs_at_starts}
use Rattle.predictions.specs.Starts.{RefusesStarts, cases_from, count_of}
use Rattle.predictions.specs.Starts.Texts.{starts_text_of}
use Rattle.predictions.specs.declared.measure.Measure.{Measure}
use Rattle.predictions.specs.declared.starts.error.StartsError.TheVariants as refusals
use Rattle.predictions.specs.declared.starts.planned.PlannedCase.{PlannedCase}
use Rattle.predictions.specs.Predictions.{kept_of}
use Rattle.predictions.specs.declared.verdict.Verdict.{Verdict}
use Rattle.predictions.specs.declared.verdict.Verdict.TheVariants.{Unknown}
use Rattle.report_pictures.specs.StartCharts.{IsStartsChart}
use Rattle.trace_views.specs.Json.{line_of}
use Rattle.trace_views.specs.StartsJson.{starts_object}
use Rattle.trace_views.specs.declared.error.ViewError.{ViewError}
use Rattle.trace_views.specs.declared.error.ViewError.TheVariants as errors
use Rattle.view_kinds.specs.declared.view.AskedStarts.{AskedStarts}
use Rattle.view_kinds.specs.declared.view.StartsForm.{StartsForm}
use Rattle.view_kinds.specs.declared.view.StartsForm.TheVariants as forms

-- by what the migrations are judged
abbrev pub starts_measure : AskedStarts → Measure
starts_measure asked = record { scale = asked.scale; limits = asked.limits; manner = asked.manner }

-- what a migration over a log costs from each start, by its own plan, and the best and the worst of the known starts;
-- the best with its standard errors
pub record AreStartsOf (log : GuestTouches) (asked : AskedStarts) (costs : List CostAtStart)
    (best worst : Option CostAtStart) : Type 0 where
  pub few : count_of asked.starts (last_tick_of log.touches) ≤ 4_096
  pub cases : List PlannedCase
  pub are_cases : AreCases asked.manner log.pages log.touches asked.scale
      (cases_from asked.settings asked.starts (last_tick_of log.touches)) cases
  pub costs_are : costs ≡ costs_at_starts asked.scale asked.limits (last_tick_of log.touches) cases
  pub best_is : IsBest asked.manner log.pages log.touches asked.scale asked.limits cases (length cases) best
  pub worst_is : IsChosen (is_worse_start asked.limits.downtime) (known_of costs) worst

-- the starts in some form
abbrev pub IsStartsText : StartsForm → GuestTouches → AskedStarts → List CostAtStart → Option CostAtStart
    → Option CostAtStart → List ℕ → Type 0
IsStartsText forms.Table log asked costs best worst text =
    text ≡ starts_text_of asked.scale asked.limits.downtime costs best worst
IsStartsText forms.Json log asked costs best worst text =
    text ≡ line_of (starts_object (starts_measure asked) costs best worst)
IsStartsText forms.Chart log asked costs best worst text = IsStartsChart asked.settings asked.scale asked.limits
    (working_sets_of log.pages log.touches asked.settings) costs best worst text

-- whether the best start keeps the limit, if a migration ends within the trace
abbrev pub kept_from : Option CostAtStart → Verdict
kept_from None = Unknown
kept_from (Some at) = kept_of at.cost

-- the costs of the starts in some form, and whether the best of them keeps the limit
pub record IsStartsView (log : GuestTouches) (asked : AskedStarts) (text : List ℕ) (kept : Verdict) : Type 0 where
  pub costs : List CostAtStart
  pub best : Option CostAtStart
  pub worst : Option CostAtStart
  pub are_starts : AreStartsOf log asked costs best worst
  pub text_is : IsStartsText asked.form log asked costs best worst text
  pub kept_is : kept ≡ kept_from best

-- why the starts cannot be shown: they are refused, or else memory ran out
abbrev pub RefusesStartsView : GuestTouches → AskedStarts → ViewError → Type 0
RefusesStartsView log asked errors.Memory =
    RefusesStarts asked.settings asked.starts (last_tick_of log.touches) refusals.Memory
RefusesStartsView log asked errors.TooManyStarts =
    RefusesStarts asked.settings asked.starts (last_tick_of log.touches) refusals.TooMany
RefusesStartsView log asked (errors.Settings e) =
    RefusesStarts asked.settings asked.starts (last_tick_of log.touches) (refusals.Settings e)
