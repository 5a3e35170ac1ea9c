-- Which of several answers is the best, and which the worst: those of the same question from several starts.
use Rattle.std.specs.Prelude.{◌≡◌, ℕ, ◌==◌, ◌&&◌, not, if◌then◌else◌, Bool, List, [], ◌∷◌, length, Option, None}
use Rattle.std.specs.Prelude.{Some}
use Rattle.std.specs.List.{IsFirstBest, count_by}
use Rattle.predictions.specs.Redrawn.Errors.{SampleErrors}
use Rattle.predictions.specs.Starts.Choices.{is_better_known, is_worse_known}
use Rattle.predictions.specs.Starts.Costs.{CostAtStart}
use Rattle.predictions.specs.Predictions.{MigrationCost}
use Rattle.predictions.specs.declared.answer.Answer.{Answer}
use Rattle.predictions.specs.declared.answer.ErrorNumbers.{ErrorNumbers}
use Rattle.browser_planner.specs.declared.starts.LentChoice.{LentChoice}
use Rattle.browser_planner.specs.declared.starts.LentStart.{LentStart}

-- What a migration costs by an answer: its limit is kept, or not, or nothing is known. If it does not go by Clark's
-- rounds and few pages are left, the guest is stopped only when what is left fits the limit.
abbrev pub cost_in : ℕ → Answer → MigrationCost
cost_in clark a = record {
  steps = a.rounds;
  time = a.time;
  bytes = a.bytes;
  downtime = a.downtime;
  is_kept = a.kept == 0;
  is_bounded = (clark == 0) && (a.reason == 0);
  is_late = a.kept == 2;
}

-- the standard errors, if they are given
abbrev pub errors_in : ErrorNumbers → Option SampleErrors
errors_in e = if e.has_errors == 0 then None
    else Some (record { bytes = e.bytes; time = e.time; downtime = e.downtime })

-- The tick of the start does not count in a choice.
abbrev pub start_in : ℕ → LentStart → CostAtStart
start_in clark s = record { start = 0; cost = cost_in clark s.answer; errors = errors_in s.errors }

abbrev pub is_better_lent : ℕ → ℕ → LentStart → LentStart → Bool
is_better_lent limit clark a b = is_better_known limit (start_in clark a) (start_in clark b)

abbrev pub is_worse_lent : ℕ → ℕ → LentStart → LentStart → Bool
is_worse_lent limit clark a b = is_worse_known limit (start_in clark a) (start_in clark b)

-- how many answers tell something
abbrev pub known_count : List LentStart → ℕ
known_count starts = count_by (λ s. not (s.answer.kept == 2)) starts

-- These are the places of the best and of the worst start beside a limit, the first of equals; one that tells something
-- comes first.
pub record AreChosen (limit clark : ℕ) (starts : List LentStart) (choice : LentChoice) : Type 0 where
  pub best : IsFirstBest (is_better_lent limit clark) starts (length starts) choice.best
  pub worst : IsFirstBest (is_worse_lent limit clark) starts (length starts) choice.worst

-- that choice; without a start the one before it stays
abbrev pub IsChoice : ℕ → ℕ → List LentStart → LentChoice → LentChoice → Type 0
IsChoice limit clark [] old new = new ≡ old
IsChoice limit clark (start ∷ starts) old new = AreChosen limit clark (start ∷ starts) new
