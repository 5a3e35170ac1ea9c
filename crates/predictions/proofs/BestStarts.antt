-- The best start so far, and what is chosen of one more case.
use Rattle.std.proofs.Common.{◌≡◌, ◌∙◌, ◌+◌, ◌<◌, ℕ, List, Option, Some, None, Bool, true, false, refl, ap, sym, subst}
use Rattle.std.proofs.Common.{inl, inr, arith}
use Rattle.std.specs.Prelude.{slice_index_or, not}
use Rattle.std.proofs.lemmas.Bool.{both_ways, cases_Bool, cases_eq, cases_order, false≢true}
use Rattle.migration_model.specs.Touches.{GuestTouch, last_tick_of}
use Rattle.predictions.specs.Starts.Choices.{IsBest, IsBestOf, IsKnownAt, IsPassed, IsTaken, beats_any}
use Rattle.predictions.specs.Starts.Choices.{is_better_start, is_known}
use Rattle.predictions.specs.Starts.Costs.{CostAtStart, IsRated, cost_at_start}
use Rattle.predictions.specs.Units.Scales.{TraceScale}
use Rattle.predictions.specs.declared.course.CourseEnd.TheVariants.{Few}
use Rattle.predictions.specs.declared.course.Manner.{Manner}
use Rattle.predictions.specs.declared.starts.planned.PlannedCase.{PlannedCase}
use Rattle.predictions.specs.declared.units.limits.Limits.{Limits}
use Rattle.predictions.proofs.OneError.{one_errors}
use Rattle.predictions.proofs.Orders.{better_order, no_better_with_errors}

module _ (manner : Manner) (pages : ℕ) (touches : List GuestTouch) (scale : TraceScale) (limits : Limits) where
  abbrev beats : CostAtStart → CostAtStart → Bool
  beats = is_better_start limits.downtime

  -- a case has one start
  pub one_rated : (case : PlannedCase) (a b : CostAtStart) → IsRated manner pages touches scale limits case a
      → IsRated manner pages touches scale limits case b → a ≡ b
  one_rated case a b x y =
      let same = x.plain_is ∙ sym y.plain_is in
      let errors = one_errors manner pages touches case.settings scale a.errors b.errors x.errors_are y.errors_are in
      λ i. record { start = (same i).start; cost = (same i).cost; errors = errors i }

  not_itself : (a : CostAtStart) → beats a a ≡ false
  not_itself a = elim (cases_Bool (beats a a)) [
    | inl wins ↦ (better_order limits.downtime).one_way a a wins
    | inr lost ↦ lost
  ]

  -- what beats one that is not beaten is not beaten, and beats it
  not_over : (a best new : CostAtStart) → beats a best ≡ false → beats new best ≡ true → beats a new ≡ false
  not_over a best new lost wins = (better_order limits.downtime).chain a best new lost
      ((better_order limits.downtime).one_way new best wins)

  over : (a best new : CostAtStart) → beats a best ≡ false → beats new best ≡ true → beats new a ≡ true
  over a best new lost wins = elim (cases_Bool (beats new a)) [
    | inl is ↦ is
    | inr is ↦ absurd (both_ways (beats new best) ((better_order limits.downtime).chain new a best is lost) wins)
  ]

  -- a start that is no better with its errors is passed
  pub passed_by : (case : PlannedCase) (best : Option CostAtStart) (at : CostAtStart)
      → IsRated manner pages touches scale limits case at → beats_any limits.downtime at best ≡ false
      → IsPassed manner pages touches scale limits case best
  passed_by case None at rated lost = absurd (false≢true (sym lost))
  passed_by case (Some best) at rated lost =
      λ other is known. subst (λ (c : CostAtStart). beats c best ≡ false) (one_rated case at other rated is) lost

  -- and so is one of which nothing is known, or that is no better without them
  pub passed_late : (case : PlannedCase) (best : Option CostAtStart)
      → is_known (cost_at_start scale limits (last_tick_of touches) case) ≡ false
      → IsPassed manner pages touches scale limits case best
  passed_late case None late = late
  passed_late case (Some best) late =
      λ at is known. absurd (both_ways (is_known at) (ap (λ (c : CostAtStart). is_known c) is.plain_is ∙ late)
      (ap not known))

  pub passed_plain : (case : PlannedCase) (best : Option CostAtStart)
      → beats_any limits.downtime (cost_at_start scale limits (last_tick_of touches) case) best ≡ false
      → IsPassed manner pages touches scale limits case best
  passed_plain case None lost = absurd (false≢true (sym lost))
  passed_plain case (Some best) lost =
      λ at is known. no_better_with_errors limits.downtime at best
      (subst (λ (c : CostAtStart). beats c best ≡ false) (sym is.plain_is) lost)

  -- a start that is known is not one of which nothing is
  still_known : (cases : List PlannedCase) (d : PlannedCase) (at : CostAtStart) {n : ℕ} (number : ℕ)
      → IsBestOf manner pages touches scale limits cases n number at → ((e : PlannedCase)
      → is_known (cost_at_start scale limits (last_tick_of touches) (slice_index_or cases number e)) ≡ false) → ⊥
  still_known cases d at number best late =
      both_ways (is_known at) (ap (λ (c : CostAtStart). is_known c) (best.is_known.rated d).plain_is ∙ late d)
      (ap not best.is_known.known)

  module _ (cases : List PlannedCase) (n : ℕ) (case : PlannedCase)
      (here : (d : PlannedCase) → slice_index_or cases n d ≡ case)
    where
      abbrev Known : ℕ → CostAtStart → Type 0
      Known k at = IsKnownAt manner pages touches scale limits cases k at

      abbrev Late : PlannedCase → Type 0
      Late l = is_known (cost_at_start scale limits (last_tick_of touches) l) ≡ false

      rated_here : (at : CostAtStart) → Known n at → IsRated manner pages touches scale limits case at
      rated_here at known = subst (λ (l : PlannedCase). IsRated manner pages touches scale limits l at) (here case)
          (known.rated case)

      -- nothing is known of a case whose migration ends after the trace
      unknown : (k : ℕ) (at : CostAtStart) → ((d : PlannedCase)
          → is_known (cost_at_start scale limits (last_tick_of touches) (slice_index_or cases k d)) ≡ false)
          → Known k at → ⊥
      unknown k at late known =
          let plain = (known.rated case).plain_is in
          let is = ap (λ (c : CostAtStart). is_known c) plain in
          both_ways (is_known at) (is ∙ late case) (ap not known.known)

      pub passes : (best : Option CostAtStart) → IsBest manner pages touches scale limits cases n best
          → IsPassed manner pages touches scale limits case best → IsBest manner pages touches scale limits cases (n + 1) best
      passes None so_far passed = λ k d low. elim (cases_eq k n) [
        | inl same ↦
            subst (λ (m : ℕ). Late (slice_index_or cases m d)) (sym same)
            (subst (λ (l : PlannedCase). Late l) (sym (here d)) passed)
        | inr other ↦ so_far k d (omega (arith, other))
      ]
      passes (Some best) (number, so_far) passed = (
        number,
        record {
          inside = omega (arith, so_far.inside);
          is_known = so_far.is_known;
          least = λ k at low known. elim (cases_eq k n) [
            | inl same ↦ passed at (rated_here at (subst (λ (m : ℕ). Known m at) same known)) known.known
            | inr other ↦ so_far.least k at (omega (arith, other)) known
          ];
          first = so_far.first;
        },
      )

      pub takes : (best : Option CostAtStart) (new : CostAtStart) → IsBest manner pages touches scale limits cases n best
          → IsTaken manner pages touches scale limits case best new
          → IsBest manner pages touches scale limits cases (n + 1) (Some new)
      takes best new so_far taken = (
        n,
        record {
          inside = omega arith;
          is_known = record {
            rated = λ d. subst (λ (l : PlannedCase). IsRated manner pages touches scale limits l new) (sym (here d)) taken.rated;
            known = taken.known;
          };
          least = λ k at low known. elim (cases_eq k n) [
            | inl same ↦
                subst (λ (c : CostAtStart). beats c new ≡ false)
                (one_rated case new at taken.rated (rated_here at (subst (λ (m : ℕ). Known m at) same known)))
                (not_itself new)
            | inr other ↦ least_before best so_far taken k at (omega (arith, other)) known
          ];
          first = λ k at low known. first_before best so_far taken k at low known;
        },
      )
        where
          least_before : (best : Option CostAtStart) → IsBest manner pages touches scale limits cases n best
              → IsTaken manner pages touches scale limits case best new → (k : ℕ) (at : CostAtStart) → k < n → Known k at
              → beats at new ≡ false
          least_before None so_far taken k at low known = absurd (unknown k at (λ d. so_far k d low) known)
          least_before (Some best) (number, so_far) taken k at low known =
              not_over at best new (so_far.least k at low known) taken.better

          first_before : (best : Option CostAtStart) → IsBest manner pages touches scale limits cases n best
              → IsTaken manner pages touches scale limits case best new → (k : ℕ) (at : CostAtStart) → k < n → Known k at
              → beats new at ≡ true
          first_before None so_far taken k at low known = absurd (unknown k at (λ d. so_far k d low) known)
          first_before (Some best) (number, so_far) taken k at low known =
              over at best new (so_far.least k at low known) taken.better

  -- there is one best start of some cases
  pub one_best : (cases : List PlannedCase) (n : ℕ) (d : PlannedCase) (a b : Option CostAtStart)
      → IsBest manner pages touches scale limits cases n a → IsBest manner pages touches scale limits cases n b → a ≡ b
  one_best cases n d None None x y = refl
  one_best cases n d None (Some b) x (number, y) = absurd (still_known cases d b number y (λ e. x number e y.inside))
  one_best cases n d (Some a) None (number, x) y = absurd (still_known cases d a number x (λ e. y number e x.inside))
  one_best cases n d (Some a) (Some b) (i, x) (j, y) = elim (cases_order i j) [
    | inl same ↦
        ap Some (one_rated (slice_index_or cases j d) a b
        (subst (λ (k : ℕ). IsRated manner pages touches scale limits (slice_index_or cases k d) a) same (x.is_known.rated d))
        (y.is_known.rated d))
    | inr (inl below) ↦
        absurd (both_ways (beats b a) (x.least j b y.inside y.is_known) (y.first i a below x.is_known))
    | inr (inr above) ↦
        absurd (both_ways (beats a b) (y.least i a x.inside x.is_known) (x.first j b above y.is_known))
  ]

no_case : PlannedCase
no_case = record {
  settings = record {
    min = 1;
    max = 1;
    increment = 0;
    threshold = 1;
    rounds = 1;
    start = 0;
    window = 1;
    hot = 1;
    workers = 1;
    streams = 1;
    replayers = 1;
    lane = 1;
    skip = false;
    base = None;
  };
  course = record { ending = Few; steps = 0; stop = 0; down = 0; total = 0 };
}

pub one_best_of : (manner : Manner) (pages : ℕ) (touches : List GuestTouch) (scale : TraceScale) (limits : Limits)
    (cases : List PlannedCase) (n : ℕ) (a b : Option CostAtStart) → IsBest manner pages touches scale limits cases n a
    → IsBest manner pages touches scale limits cases n b → a ≡ b
one_best_of manner pages touches scale limits cases n a b x y = one_best manner pages touches scale limits cases n no_case a b x y
