-- What C sees of the best start of a migration, and why there is none.
use Rattle.std.specs.Prelude.{◌≡◌, ◌≢◌, ◌≤◌, ℕ, List, Option, length}
use Rattle.c_layout.specs.Refusals.{number_of_settings}
use Rattle.c_layout.specs.Starts.{best_errors, best_numbers}
use Rattle.c_layout.specs.declared.starts.BestStartNumbers.{BestStartNumbers}
use Rattle.migration_model.specs.Touches.{GuestTouches, last_tick_of, touches_in, touches_of}
use Rattle.migration_model.specs.Trace.{GuestTrace}
use Rattle.predictions.specs.Questions.{Fits, error_numbers, given, scale_in, settings_of, terms_of}
use Rattle.predictions.specs.Starts.Cases.{AreCases}
use Rattle.predictions.specs.Starts.Choices.{IsBest}
use Rattle.predictions.specs.Starts.Costs.{CostAtStart}
use Rattle.predictions.specs.Starts.{AreAccepted, RefusesStarts, cases_from, count_of}
use Rattle.predictions.specs.declared.answer.ErrorNumbers.{ErrorNumbers}
use Rattle.predictions.specs.declared.question.Question.{Question}
use Rattle.predictions.specs.declared.question.Terms.{Terms}
use Rattle.predictions.specs.declared.starts.cases.Starts.{Starts}
use Rattle.predictions.specs.declared.starts.error.StartsError.{StartsError}
use Rattle.predictions.specs.declared.starts.planned.PlannedCase.{PlannedCase}
use Rattle.predictions.specs.declared.starts.error.StartsError.TheVariants as errors
use Rattle.c_answers.specs.Predictions.{IsAsked, RefusesPrediction, number_of_question}
use Rattle.c_answers.specs.declared.questions.SizedQuestion.{SizedQuestion}
use Rattle.c_answers.specs.declared.starts.SizedStarts.{SizedStarts}
use Rattle.c_answers.specs.declared.starts.StartsRefusal.{StartsRefusal}
use Rattle.c_answers.specs.declared.starts.StartsRefusal.TheVariants as refusals

-- the ticks at which the migration of a question may begin: its start is the first
abbrev pub starts_in : Question → SizedStarts → Starts
starts_in q starts = record {
  from = q.start;
  to = given starts.has_to starts.to;
  every = given starts.has_every starts.every;
}

-- there are not too many starts, and each is in range
pub record AreTaken (terms : Terms) (starts : Starts) (log : GuestTouches) : Type 0 where
  pub few : count_of starts (last_tick_of log.touches) ≤ 4_096
  pub accepted : AreAccepted terms.settings starts (last_tick_of log.touches)

-- this start is the best over a log of touches, or there is none since no migration ends within it
pub record IsBestOver (terms : Terms) (starts : Starts) (log : GuestTouches) (best : Option CostAtStart) : Type 0 where
  pub taken : AreTaken terms starts log
  pub cases : List PlannedCase
  pub are_cases : AreCases terms.manner log.pages log.touches terms.scale
      (cases_from terms.settings starts (last_tick_of log.touches)) cases
  pub is_best : IsBest terms.manner log.pages log.touches terms.scale terms.limits cases (length cases) best

-- these numbers tell the best start of a question over a trace that has the question's scale
pub record IsBestOf (trace : GuestTrace) (q : Question) (starts : SizedStarts) (numbers : BestStartNumbers)
    (errors : ErrorNumbers) : Type 0 where
  pub fits : Fits (scale_in q) trace.shift trace.pages
  pub best : Option CostAtStart
  pub is_best : IsBestOver (terms_of q) (starts_in q starts) (touches_in trace) best
  pub numbers_are : numbers ≡ best_numbers q.downtime best
  pub errors_are : errors ≡ error_numbers (best_errors best)

-- the number of a refusal of starts
abbrev pub number_of_starts : StartsError → ℕ
number_of_starts errors.Memory = 16
number_of_starts errors.TooMany = 90
number_of_starts (errors.Settings e) = number_of_settings e

abbrev pub number_of_best : StartsRefusal → ℕ
number_of_best refusals.Size = 31
number_of_best (refusals.Question e) = number_of_question e
number_of_best (refusals.Starts e) = number_of_starts e

-- this is the number of a refusal for which that holds
abbrev pub IsNumberOfBest : ℕ → (StartsRefusal → Type 0) → Type 0
IsNumberOfBest number Holds = (refusal : StartsRefusal) × (number ≡ number_of_best refusal) × Holds refusal

-- There is no best start: the struct of the starts is longer or shorter, or else the question has no answer over the
-- trace, or else the starts are refused, or memory ran out.
abbrev pub RefusesBest : GuestTrace → SizedQuestion → SizedStarts → StartsRefusal → Type 0
RefusesBest trace asked starts refusals.Size = starts.size ≢ 32
RefusesBest trace asked starts (refusals.Question e) = (starts.size ≡ 32) × RefusesPrediction trace asked e
RefusesBest trace asked starts (refusals.Starts e) = (starts.size ≡ 32) × IsAsked asked
    × Fits (scale_in asked.question) trace.shift trace.pages
    × RefusesStarts (settings_of asked.question) (starts_in asked.question starts)
    (last_tick_of (touches_of trace)) e

-- the best start of a question is told over this trace if memory is there
pub record IsAskedOfBest (trace : GuestTrace) (asked : SizedQuestion) (starts : SizedStarts) : Type 0 where
  pub is_asked : IsAsked asked
  pub fits : Fits (scale_in asked.question) trace.shift trace.pages
  pub size : starts.size ≡ 32
  pub taken : AreTaken (terms_of asked.question) (starts_in asked.question starts) (touches_in trace)
