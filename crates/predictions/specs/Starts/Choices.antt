-- Which of some starts is the best, and which the worst. A start that is likely to keep the limit comes first: it
-- keeps it, with two standard errors of the downtime or by a hypervisor that stops the guest only when what is left
-- fits it. Of such starts the one that sends less is better, since any downtime is allowed there; of others the one
-- whose downtime is likely to be less. Then the quicker one is. Nobody looks for the worst to take it, so it is told by
-- the plans alone. This project's own.
use Rattle.std.specs.Prelude.{◌≡◌, ℕ, ◌+◌, ◌*◌, ◌-◌, ◌^◌, ◌<◌, min, nat_le, nat_lt, ◌&&◌, ◌||◌, ◌==◌, not, true, false}
use Rattle.std.specs.Prelude.{Bool, if◌then◌else◌, List, [], length, slice_index_or, Option, None, Some}
use Rattle.std.specs.List.{IsFirstBest, filter}
use Rattle.migration_model.specs.Touches.{GuestTouch, last_tick_of}
use Rattle.predictions.specs.Redrawn.Errors.{SampleErrors}
use Rattle.predictions.specs.Starts.Costs.{CostAtStart, IsRated, cost_at_start, plain_of}
use Rattle.predictions.specs.Units.Scales.{TraceScale}
use Rattle.predictions.specs.declared.course.Manner.{Manner}
use Rattle.predictions.specs.declared.starts.planned.PlannedCase.{PlannedCase}
use Rattle.predictions.specs.declared.units.limits.Limits.{Limits}

-- the starts from which a migration ends within the trace; nothing is known of others
abbrev pub is_known : CostAtStart → Bool
is_known at = not at.cost.is_late

abbrev pub known_of : List CostAtStart → List CostAtStart
known_of costs = filter is_known costs

-- whether the first is less by a number, or equal by it and less by a test
abbrev pub by_then : (CostAtStart → ℕ) → (CostAtStart → CostAtStart → Bool) → CostAtStart → CostAtStart → Bool
by_then key is_less a b = nat_lt (key a) (key b) || ((key a == key b) && is_less a b)

-- the standard error of the downtime, if one is counted
abbrev pub down_error : Option SampleErrors → ℕ
down_error None = 0
down_error (Some errors) = errors.downtime

-- the downtime and two standard errors, as 128 bits hold it
abbrev pub likely_downtime : CostAtStart → ℕ
likely_downtime at = min (at.cost.downtime + 2 * down_error at.errors) (2 ^ 128 - 1)

-- whether the limit is likely to be kept
unfoldable pub is_likely : ℕ → CostAtStart → Bool
is_likely limit at = at.cost.is_kept && (at.cost.is_bounded || nat_le (likely_downtime at) limit)

-- what counts first: nothing if the limit is likely to be kept, and else how long the guest is likely to stand still
abbrev pub overrun : ℕ → CostAtStart → ℕ
overrun limit at = if is_likely limit at then 0 else likely_downtime at

abbrev pub bytes_at : CostAtStart → ℕ
bytes_at at = at.cost.bytes

abbrev pub is_quicker : CostAtStart → CostAtStart → Bool
is_quicker a b = nat_lt a.cost.time b.cost.time

-- whether the first start is better than the second, or worse
abbrev pub is_better_start : ℕ → CostAtStart → CostAtStart → Bool
is_better_start limit = by_then (overrun limit) (by_then bytes_at is_quicker)

abbrev pub is_worse_start : ℕ → CostAtStart → CostAtStart → Bool
is_worse_start limit a b = is_better_start limit (plain_of b) (plain_of a)

-- 0 if the migration ends within the trace, and else 1
abbrev pub lateness : CostAtStart → ℕ
lateness at = if at.cost.is_late then 1 else 0

-- the same choice over all starts: one of which nothing is known comes after any other
abbrev pub is_better_known : ℕ → CostAtStart → CostAtStart → Bool
is_better_known limit = by_then lateness (is_better_start limit)

abbrev pub is_worse_known : ℕ → CostAtStart → CostAtStart → Bool
is_worse_known limit = by_then lateness (is_worse_start limit)

-- what is chosen of some starts: the first that no other beats, or none of none
abbrev pub IsChosen : (CostAtStart → CostAtStart → Bool) → List CostAtStart → Option CostAtStart → Type 0
IsChosen beats costs None = costs ≡ []
IsChosen beats costs (Some chosen) =
    (at : ℕ) × IsFirstBest beats costs (length costs) at × (slice_index_or costs at chosen ≡ chosen)

-- the start of a case, by its number, with its errors, if the migration ends within the trace
pub record IsKnownAt (manner : Manner) (pages : ℕ) (touches : List GuestTouch) (scale : TraceScale) (limits : Limits)
    (cases : List PlannedCase) (number : ℕ) (at : CostAtStart) : Type 0 where
  pub rated : (d : PlannedCase) → IsRated manner pages touches scale limits (slice_index_or cases number d) at
  pub known : at.cost.is_late ≡ false

-- of the first `n` cases this one has the best start, the first of equals: with the errors that each has
pub record IsBestOf (manner : Manner) (pages : ℕ) (touches : List GuestTouch) (scale : TraceScale) (limits : Limits)
    (cases : List PlannedCase) (n number : ℕ) (best : CostAtStart) : Type 0 where
  pub inside : number < n
  pub is_known : IsKnownAt manner pages touches scale limits cases number best
  pub least : (k : ℕ) (at : CostAtStart) → k < n → IsKnownAt manner pages touches scale limits cases k at
      → is_better_start limits.downtime at best ≡ false
  pub first : (k : ℕ) (at : CostAtStart) → k < number → IsKnownAt manner pages touches scale limits cases k at
      → is_better_start limits.downtime best at ≡ true

-- the best start of the first `n` cases, or none if no migration ends within the trace
abbrev pub IsBest : Manner → ℕ → List GuestTouch → TraceScale → Limits → List PlannedCase → ℕ → Option CostAtStart
    → Type 0
IsBest manner pages touches scale limits cases n None = (k : ℕ) (d : PlannedCase) → k < n
    → is_known (cost_at_start scale limits (last_tick_of touches) (slice_index_or cases k d)) ≡ false
IsBest manner pages touches scale limits cases n (Some best) =
    (number : ℕ) × IsBestOf manner pages touches scale limits cases n number best

-- whether a start is better than the best so far, if there is one
abbrev pub beats_any : ℕ → CostAtStart → Option CostAtStart → Bool
beats_any limit at None = true
beats_any limit at (Some best) = is_better_start limit at best

-- The better of the best start so far and that of a case. If the case has another one, that has its errors.
pub record IsTaken (manner : Manner) (pages : ℕ) (touches : List GuestTouch) (scale : TraceScale) (limits : Limits)
    (case : PlannedCase) (best : Option CostAtStart) (at : CostAtStart) : Type 0 where
  pub rated : IsRated manner pages touches scale limits case at
  pub known : at.cost.is_late ≡ false
  pub better : beats_any limits.downtime at best ≡ true

-- nothing of the case is known, or its start is no better with its errors
abbrev pub IsPassed : Manner → ℕ → List GuestTouch → TraceScale → Limits → PlannedCase → Option CostAtStart → Type 0
IsPassed manner pages touches scale limits case None =
    is_known (cost_at_start scale limits (last_tick_of touches) case) ≡ false
IsPassed manner pages touches scale limits case (Some best) =
    (at : CostAtStart) → IsRated manner pages touches scale limits case at → at.cost.is_late ≡ false
    → is_better_start limits.downtime at best ≡ false
