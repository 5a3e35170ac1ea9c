-- The case to take if a migration has a budget: of those that are likely to keep it, the one with the fewest pages
-- sent, or else the one with the least downtime. A case that ends after the touches is not taken, since nothing is
-- known of it. As of starts, a downtime is likely to be kept if it is with two standard errors more. The pages sent
-- count as planned: more of them cost time and bytes, and no guest stands still for them. Counting the pages sent first
-- within a budget is this project's own.
use Rattle.std.specs.Prelude.{◌≡◌, ℕ, ◌<◌, ◌≤◌, nat_lt, nat_le, ◌&&◌, ◌||◌, ◌==◌, Bool, true, false, Option, None, Some}
use Rattle.std.specs.Prelude.{List, length, slice_index_or}
use Rattle.migration_model.specs.Sweeps.{SweepLine, is_better}
use Rattle.migration_model.specs.Touches.{GuestTouches, last_tick_of}
use Rattle.predictions.specs.Redrawn.Errors.{AreErrors, SampleErrors}
use Rattle.predictions.specs.Starts.Cases.{case_of_line}
use Rattle.predictions.specs.Starts.Choices.{is_likely}
use Rattle.predictions.specs.Starts.Costs.{CostAtStart, cost_at_start}
use Rattle.predictions.specs.declared.course.Manner.TheVariants as manners
use Rattle.view_kinds.specs.declared.budget.Budget.{Budget}
use Rattle.trace_views.specs.declared.advice.Advice.{Advice}
use Rattle.trace_views.specs.declared.advice.Advice.TheVariants as advices
use Rattle.view_kinds.specs.declared.view.Measured.{Measured}

-- whether a case ends within the touches
abbrev pub ends_within : GuestTouches → SweepLine → Bool
ends_within log line = nat_le line.outcome.stop (last_tick_of log.touches)

abbrev pub EndsWithin : GuestTouches → SweepLine → Type 0
EndsWithin log line = ends_within log line ≡ true

-- the standard errors of a case, if it is known what ticks and pages stand for and a part of the pages was sampled
abbrev pub AreCaseErrors : GuestTouches → Option Measured → SweepLine → Option SampleErrors → Type 0
AreCaseErrors log None line errors = errors ≡ None
AreCaseErrors log (Some known) line errors =
    AreErrors manners.Rounds log.pages log.touches line.settings known.scale errors

-- a case with its errors as a start
abbrev pub case_with : GuestTouches → Measured → SweepLine → SampleErrors → CostAtStart
case_with log known line errors =
    record (cost_at_start known.scale known.limits (last_tick_of log.touches) (case_of_line line)) {
      errors = Some errors;
    }

-- whether a case with these errors is likely to keep its limit; nothing is asked if none are counted
abbrev pub is_likely_with : GuestTouches → Option Measured → SweepLine → Option SampleErrors → Bool
is_likely_with log None line errors = true
is_likely_with log (Some known) line None = true
is_likely_with log (Some known) line (Some errors) = is_likely known.limits.downtime (case_with log known line errors)

-- a case is likely to keep a downtime: it ends within the touches, its plan keeps the downtime, and it is likely to
-- keep its limit with the errors that it has
pub record KeepsDown (log : GuestTouches) (measured : Option Measured) (down : ℕ) (line : SweepLine) : Type 0 where
  pub known : EndsWithin log line
  pub planned : line.outcome.down ≤ down
  pub errors : Option SampleErrors
  pub errors_are : AreCaseErrors log measured line errors
  pub likely : is_likely_with log measured line errors ≡ true

-- whether a number is within a limit, if there is one
abbrev pub is_within : Option ℕ → ℕ → Bool
is_within None n = true
is_within (Some limit) n = nat_le n limit

-- a case is likely to keep a budget
pub record KeepsBudget (log : GuestTouches) (measured : Option Measured) (budget : Budget)
    (line : SweepLine) : Type 0 where
  pub down : KeepsDown log measured budget.down line
  pub total : is_within budget.total line.outcome.total ≡ true

-- whether fewer pages are sent for a case than for another, or as many with less downtime
abbrev pub is_cheaper : SweepLine → SweepLine → Bool
is_cheaper a b = nat_lt a.outcome.total b.outcome.total
    || ((a.outcome.total == b.outcome.total) && nat_lt a.outcome.down b.outcome.down)

-- whether a case beats that of a place, if there is one
abbrev pub beats_found : (SweepLine → SweepLine → Bool) → List SweepLine → SweepLine → Option ℕ → Bool
beats_found beats lines line None = true
beats_found beats lines line (Some at) = beats line (slice_index_or lines at line)

-- none of the first `n` cases has what is asked
pub record NoneHas (Has : SweepLine → Type 0) (lines : List SweepLine) (n : ℕ) : Type 0 where
  pub none : (k : ℕ) (d : SweepLine) → k < n → ¬ Has (slice_index_or lines k d)

-- Of the first `n` cases, this is the first of the best that have what is asked: no other that has it beats this one,
-- and this one beats each before it.
pub record IsFirst (beats : SweepLine → SweepLine → Bool) (Has : SweepLine → Type 0) (lines : List SweepLine)
    (n at : ℕ) : Type 0 where
  pub inside : at < n
  pub has : (d : SweepLine) → Has (slice_index_or lines at d)
  pub best : (k : ℕ) (d : SweepLine) → k < n → Has (slice_index_or lines k d)
      → beats (slice_index_or lines k d) (slice_index_or lines at d) ≡ false
  pub first : (k : ℕ) (d : SweepLine) → k < at → Has (slice_index_or lines k d)
      → beats (slice_index_or lines at d) (slice_index_or lines k d) ≡ true

-- that case, if one has what is asked
abbrev pub IsFound : (SweepLine → SweepLine → Bool) → (SweepLine → Type 0) → List SweepLine → ℕ → Option ℕ → Type 0
IsFound beats Has lines n None = NoneHas Has lines n
IsFound beats Has lines n (Some at) = IsFirst beats Has lines n at

-- the case with the least downtime, and then the fewest pages sent, of those that end within the touches
abbrev pub IsNearest : GuestTouches → List SweepLine → ℕ → Type 0
IsNearest log lines at = IsFirst is_better (EndsWithin log) lines (length lines) at

-- what to take of some cases over some touches: the cheapest that is likely to keep the budget, or the one with the
-- least downtime and why none does; none of them if none ends within the touches
abbrev pub IsAdvice : GuestTouches → Option Measured → Budget → List SweepLine → Advice → Type 0
IsAdvice log measured budget lines (advices.Fits case) =
    IsFirst is_cheaper (KeepsBudget log measured budget) lines (length lines) case
IsAdvice log measured budget lines (advices.OverTotal nearest cheapest) =
    NoneHas (KeepsBudget log measured budget) lines (length lines) × IsNearest log lines nearest
    × IsFirst is_cheaper (KeepsDown log measured budget.down) lines (length lines) cheapest
IsAdvice log measured budget lines (advices.OverDown nearest) =
    NoneHas (KeepsDown log measured budget.down) lines (length lines) × IsNearest log lines nearest
IsAdvice log measured budget lines advices.Unknown = NoneHas (EndsWithin log) lines (length lines)
