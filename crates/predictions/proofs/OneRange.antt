-- The ranges of what some migrations cost are determined, and so is the worst start.
use Rattle.std.proofs.Common.{◌≡◌, ◌∙◌, ◌<◌, ◌≤◌, ℕ, Bool, List, [], map, length, Option, Some, None, refl, sym, ap}
use Rattle.std.proofs.Common.{subst, arith, get_or}
use Rattle.std.proofs.lemmas.List.{get_or_default}
use Rattle.std.proofs.lemmas.List.Elements.{All-contains}
use Rattle.std.proofs.lemmas.List.MinMax.{IsFirstBest-unique}
use Rattle.std.specs.Cmp.{IsStrictWeakOrder}
use Rattle.std.specs.List.{Contains}
use Rattle.predictions.specs.Starts.Choices.{IsChosen, known_of}
use Rattle.predictions.specs.Starts.Costs.{CostAtStart, costs_at_starts}
use Rattle.predictions.specs.Starts.Ranges.{AreExtremes, AreRanges, AreRangesOf, IsRange, MigrationNumbers}
use Rattle.predictions.specs.Starts.Ranges.{RangesOfStarts}
use Rattle.predictions.specs.Units.Scales.{TraceScale}
use Rattle.predictions.specs.declared.starts.planned.PlannedCase.{PlannedCase}
use Rattle.predictions.specs.declared.units.limits.Limits.{Limits}

one_range : (ns : List ℕ) (a b c d : ℕ) → IsRange ns a c → IsRange ns b d → (a ≡ b) × (c ≡ d)
one_range ns a b c d x y =
    let least = All-contains (λ n. (a ≤ n) × (n ≤ c)) ns b x.between y.least_in in
    let low = All-contains (λ n. (b ≤ n) × (n ≤ d)) ns a y.between x.least_in in
    let greatest = All-contains (λ n. (a ≤ n) × (n ≤ c)) ns d x.between y.greatest_in in
    let high = All-contains (λ n. (b ≤ n) × (n ≤ d)) ns c y.between x.greatest_in in
    (omega (arith, least.0, low.0), omega (arith, greatest.1, high.1))

one_pair : (known : List CostAtStart) (a b c d : MigrationNumbers) → AreExtremes known a c → AreExtremes known b d
    → (a ≡ b) × (c ≡ d)
one_pair known a b c d x y =
    let time = one_range (map (λ at. at.cost.time) known) a.time b.time c.time d.time x.time y.time in
    let bytes = one_range (map (λ at. at.cost.bytes) known) a.bytes b.bytes c.bytes d.bytes x.bytes y.bytes in
    let down = one_range (map (λ at. at.cost.downtime) known) a.downtime b.downtime c.downtime d.downtime x.downtime
    y.downtime in (
      λ i. record { time = time.0 i; bytes = bytes.0 i; downtime = down.0 i },
      λ i. record { time = time.1 i; bytes = bytes.1 i; downtime = down.1 i },
    )

one_of : (last : ℕ) (cases : List PlannedCase) (known : List CostAtStart) (a b : RangesOfStarts)
    → AreRangesOf last cases known a → AreRangesOf last cases known b → a ≡ b
one_of last cases known a b x y =
    let count = x.count_is ∙ sym y.count_is in
    let known_is = x.known_is ∙ sym y.known_is in
    let converging = x.converging_is ∙ sym y.converging_is in
    let kept = x.kept_is ∙ sym y.kept_is in
    let pair = one_pair known a.least b.least a.greatest b.greatest x.extremes y.extremes in
    λ i. record {
      count = count i;
      known = known_is i;
      converging = converging i;
      kept = kept i;
      least = pair.0 i;
      greatest = pair.1 i;
    }

-- if nothing is known, nothing has a range
none_of : (last : ℕ) (cases : List PlannedCase) (known : List CostAtStart) (a : RangesOfStarts) → known ≡ []
    → AreRangesOf last cases known a → ⊥
none_of last cases known a none x =
    let inside : Contains [] a.least.time =
    subst (λ (l : List CostAtStart). Contains (map (λ at. at.cost.time) l) a.least.time) none
    x.extremes.time.least_in in
    omega (arith, inside.1)

pub one_ranges : (scale : TraceScale) (limits : Limits) (last : ℕ) (cases : List PlannedCase)
    (a b : Option RangesOfStarts) → AreRanges scale limits last cases a → AreRanges scale limits last cases b → a ≡ b
one_ranges scale limits last cases None None x y = refl
one_ranges scale limits last cases None (Some b) x y =
    absurd (none_of last cases (known_of (costs_at_starts scale limits last cases)) b x y)
one_ranges scale limits last cases (Some a) None x y =
    absurd (none_of last cases (known_of (costs_at_starts scale limits last cases)) a y x)
one_ranges scale limits last cases (Some a) (Some b) x y =
    ap Some (one_of last cases (known_of (costs_at_starts scale limits last cases)) a b x y)

-- nothing is chosen of none alone
not_none : (beats : CostAtStart → CostAtStart → Bool) (costs : List CostAtStart) (a : CostAtStart) → costs ≡ []
    → IsChosen beats costs (Some a) → ⊥
not_none beats costs a none x =
    let inside : x.0 < length costs = x.1.0 in
    let empty : length costs ≡ 0 = ap (λ (l : List CostAtStart). length l) none in
    omega (arith, inside, empty)

same_chosen : (beats : CostAtStart → CostAtStart → Bool) (order : IsStrictWeakOrder beats) (costs : List CostAtStart)
    (a b : CostAtStart) → IsChosen beats costs (Some a) → IsChosen beats costs (Some b) → a ≡ b
same_chosen beats order costs a b x y =
    let place : x.0 ≡ y.0 = IsFirstBest-unique order costs (length costs) x.0 y.0 a x.1 y.1 in
    sym x.2 ∙ ap (λ (n : ℕ). get_or costs n a) place ∙ get_or_default costs y.0 a b y.1.0 ∙ y.2

pub one_chosen : (beats : CostAtStart → CostAtStart → Bool) (order : IsStrictWeakOrder beats)
    (costs : List CostAtStart) (a b : Option CostAtStart) → IsChosen beats costs a → IsChosen beats costs b → a ≡ b
one_chosen beats order costs None None x y = refl
one_chosen beats order costs None (Some b) x y = absurd (not_none beats costs b x y)
one_chosen beats order costs (Some a) None x y = absurd (not_none beats costs a y x)
one_chosen beats order costs (Some a) (Some b) x y = ap Some (same_chosen beats order costs a b x y)
