-- The first of the best cases that have what is asked, one case more at a time.
use Rattle.std.proofs.Common.{◌≡◌, ℕ, ◌+◌, ◌<◌, Bool, true, false, Option, Some, None, List, length, get_or, ap}
use Rattle.std.proofs.Common.{◌∙◌, sym, subst, inl, inr, arith}
use Rattle.std.specs.Prelude.{◌⊎◌}
use Rattle.std.proofs.lemmas.Bool.{cases_eq, false≢true}
use Rattle.std.proofs.lemmas.List.{get_or_default}
use Rattle.std.proofs.lemmas.Option.{none-some, same_Some}
use Rattle.migration_model.specs.Sweeps.{SweepLine, is_better, outcome_with, line_with}
use Rattle.sweep_report.proofs.Best.{better_through, worse_not, not_self}
use Rattle.trace_views.specs.Advice.{IsFound, beats_found, is_cheaper}

-- What an order of cases keeps to: a case beats what one does not beat that it beats, no two beat one another, and none
-- beats itself.
pub record IsOrder (beats : SweepLine → SweepLine → Bool) : Type 0 where
  pub through : (a b c : SweepLine) → beats a b ≡ true → beats c b ≡ false → beats a c ≡ true
  pub one_way : (a b : SweepLine) → beats a b ≡ true → beats b a ≡ false
  pub not_itself : (a : SweepLine) → beats a a ≡ false

pub nearer_first : IsOrder is_better
nearer_first = record { through = better_through; one_way = worse_not; not_itself = not_self }

-- a line with its downtime and its pages exchanged: a better line so exchanged is a cheaper line
abbrev turned : SweepLine → SweepLine
turned line = line_with line.settings (outcome_with line.outcome.rounds line.outcome.reason line.outcome.stop
    line.outcome.total line.outcome.down)

pub cheaper_first : IsOrder is_cheaper
cheaper_first = record {
  through = λ a b c. better_through (turned a) (turned b) (turned c);
  one_way = λ a b. worse_not (turned a) (turned b);
  not_itself = λ a. not_self (turned a);
}

-- an index below n + 1 is n, or below n
last_or_before : (k n : ℕ) → k < n + 1 → (k ≡ n) ⊎ (k < n)
last_or_before k n low = elim (cases_eq k n) [ inl same ↦ inl same | inr other ↦ inr (omega (arith, other)) ]

-- a place that was found is before the case that comes next
pub found_inside : (beats : SweepLine → SweepLine → Bool) (Has : SweepLine → Type 0) (lines : List SweepLine) (n : ℕ)
    (found : Option ℕ) (at : ℕ) → IsFound beats Has lines n found → found ≡ Some at → at < n
found_inside beats Has lines n None at before is = absurd (none-some at is)
found_inside beats Has lines n (Some place) at before is = let inside : place < n = before.inside in
    subst (λ (j : ℕ). j < n) (same_Some place at is) inside

module _ (beats : SweepLine → SweepLine → Bool) (Has : SweepLine → Type 0) (lines : List SweepLine) (n : ℕ)
    (line : SweepLine) (inside : n < length lines) (is : line ≡ get_or lines n line) where
  -- whatever the default is, line n is this one
  there : (d : SweepLine) → line ≡ get_or lines n d
  there d = is ∙ get_or_default lines n line d inside

  -- what holds of the first n lines, and of this one, holds of the first n + 1
  each_more : (d : SweepLine) (P : SweepLine → Type 0) → ((k : ℕ) → k < n → P (get_or lines k d)) → P line → (k : ℕ)
      → k < n + 1 → P (get_or lines k d)
  each_more d P before last k low = elim (last_or_before k n low) [
    | inl same ↦ subst P (there d ∙ ap (λ (j : ℕ). get_or lines j d) (sym same)) last
    | inr less ↦ before k less
  ]

  -- a case that does not have what is asked is passed
  pub passes : (found : Option ℕ) → IsFound beats Has lines n found → ¬ Has line
      → IsFound beats Has lines (n + 1) found
  passes None before lacks = record {
    none = λ k d low. each_more d (λ l. ¬ Has l) (λ j less. before.none j d less) lacks k low;
  }
  passes (Some at) before lacks = record {
    inside = omega (arith, before.inside);
    has = before.has;
    best = λ k d low. each_more d (λ l. Has l → beats l (get_or lines at d) ≡ false)
        (λ j less. before.best j d less)
        (λ has. absurd (lacks has)) k low;
    first = before.first;
  }

  -- and so is one that does not beat what was found
  pub stays : (found : Option ℕ) → IsFound beats Has lines n found → beats_found beats lines line found ≡ false
      → IsFound beats Has lines (n + 1) found
  stays None before beaten = absurd (false≢true (sym beaten))
  stays (Some at) before beaten = record {
    inside = omega (arith, before.inside);
    has = before.has;
    best = λ k d low. each_more d (λ l. Has l → beats l (get_or lines at d) ≡ false)
        (λ j less. before.best j d less)
        (λ has. ap (beats line) (sym (get_or_default lines at line d (omega (arith, before.inside)))) ∙ beaten) k low;
    first = before.first;
  }

  -- another that has what is asked is taken
  pub takes : (order : IsOrder beats) (found : Option ℕ) → IsFound beats Has lines n found → Has line
      → beats_found beats lines line found ≡ true → IsFound beats Has lines (n + 1) (Some n)
  takes order None before has wins = record {
    inside = omega arith;
    has = λ d. subst Has (there d) has;
    best = λ k d low. each_more d (λ l. Has l → beats l (get_or lines n d) ≡ false)
        (λ j less other. absurd (before.none j d less other))
        (λ other. ap (beats line) (sym (there d)) ∙ order.not_itself line) k low;
    first = λ k d low other. absurd (before.none k d low other);
  }
  takes order (Some at) before has wins =
      let through : (k : ℕ) (d : SweepLine) → k < n → Has (get_or lines k d)
      → beats line (get_or lines k d) ≡ true =
      λ k d low other. order.through line (get_or lines at line) (get_or lines k d) wins
      (ap (beats (get_or lines k d)) (get_or_default lines at line d (omega (arith, before.inside)))
      ∙ before.best k d low other) in
      record {
        inside = omega arith;
        has = λ d. subst Has (there d) has;
        best = λ k d low. each_more d (λ l. Has l → beats l (get_or lines n d) ≡ false)
            (λ j less other. ap (beats (get_or lines j d)) (sym (there d))
            ∙ order.one_way line (get_or lines j d) (through j d less other))
            (λ other. ap (beats line) (sym (there d)) ∙ order.not_itself line) k low;
        first = λ k d low other. ap (λ (l : SweepLine). beats l (get_or lines k d)) (sym (there d))
            ∙ through k d low other;
      }
