-- Which of some lines is the best.
use Rattle.std.proofs.Common.{◌≡◌, ℕ, ◌<◌, ◌≤◌, Bool, true, false, not, ◌&&◌, ◌||◌, eqb, ltb, List, [], ◌∷◌, length}
use Rattle.std.proofs.Common.{get_or, ap, ◌∙◌, sym, inl, inr, arith}
use Rattle.std.specs.Prelude.{◌⊎◌}
use Rattle.std.specs.List.{list_any}
use Rattle.std.proofs.lemmas.Bool.{cases_lt, cases_eq, or_cases, or_left, or_right, and_parts, and_from, both_ways}
use Rattle.std.proofs.lemmas.Bool.{false_from_ne_true, ltb-true, lt-ltb, eq-eqb, eqb-true}
use Rattle.std.proofs.lemmas.List.{get_or_default}
use Rattle.std.proofs.lemmas.List.Folds.{list_any_none, list_any_at}
use Rattle.std.proofs.lemmas.List.Sums.{position_or_len_is}
use Rattle.migration_model.specs.Sweeps.{SweepLine, is_better, best_of}

-- the pair d, t is less than e, u
abbrev lesser : ℕ → ℕ → ℕ → ℕ → Bool
lesser d t e u = ltb d e || (eqb d e && ltb t u)

lesser_is : (d t e u : ℕ) → lesser d t e u ≡ true → (d < e) ⊎ ((d ≡ e) × (t < u))
lesser_is d t e u is = elim (or_cases (ltb d e) (eqb d e && ltb t u) is) [
  | inl less ↦ inl (ltb-true d e less)
  | inr both ↦ let parts = and_parts (eqb d e) (ltb t u) both in inr (eqb-true d e parts.0, ltb-true t u parts.1)
]

lesser_from : (d t e u : ℕ) → (d < e) ⊎ ((d ≡ e) × (t < u)) → lesser d t e u ≡ true
lesser_from d t e u (inl less) = or_left (ltb d e) (eqb d e && ltb t u) (lt-ltb d e less)
lesser_from d t e u (inr same) = or_right (ltb d e) (eqb d e && ltb t u)
    (and_from (eqb d e) (ltb t u) (eq-eqb d e same.0) (lt-ltb t u same.1))

not_lesser : (d t e u : ℕ) → lesser d t e u ≡ false → (e < d) ⊎ ((d ≡ e) × (u ≤ t))
not_lesser d t e u is = elim (cases_lt d e) [
  | inl less ↦ absurd (both_ways _ is (lesser_from d t e u (inl less)))
  | inr high ↦ elim (cases_eq d e) [
    | inl same ↦ elim (cases_lt t u) [
      | inl less ↦ absurd (both_ways _ is (lesser_from d t e u (inr (same, less))))
      | inr more ↦ inr (same, more)
    ]
    | inr other ↦ inl (omega (arith, other))
  ]
]

never_both : (d t e u : ℕ) → (d < e) ⊎ ((d ≡ e) × (t < u)) → (e < d) ⊎ ((d ≡ e) × (u ≤ t)) → ⊥
never_both d t e u (inl a) (inl b) = omega arith
never_both d t e u (inl a) (inr b) = omega (arith, b.0)
never_both d t e u (inr a) (inl b) = omega (arith, a.0)
never_both d t e u (inr a) (inr b) = omega (arith, a.1, b.1)

-- less than one than which another is not less
through : (d t e u f v : ℕ) → (d < e) ⊎ ((d ≡ e) × (t < u)) → (e < f) ⊎ ((f ≡ e) × (u ≤ v))
    → (d < f) ⊎ ((d ≡ f) × (t < v))
through d t e u f v (inl a) (inl b) = inl (omega arith)
through d t e u f v (inl a) (inr b) = inl (omega (arith, b.0))
through d t e u f v (inr a) (inl b) = inl (omega (arith, a.0))
through d t e u f v (inr a) (inr b) = inr (a.0 ∙ sym b.0, omega (arith, a.1, b.1))

pub better_through : (a b c : SweepLine) → is_better a b ≡ true → is_better c b ≡ false → is_better a c ≡ true
better_through a b c less not_less =
    lesser_from a.outcome.down a.outcome.total c.outcome.down c.outcome.total
    (through _ _ b.outcome.down b.outcome.total _ _ (lesser_is _ _ _ _ less) (not_lesser _ _ _ _ not_less))

pub worse_not : (a b : SweepLine) → is_better a b ≡ true → is_better b a ≡ false
worse_not a b less =
    false_from_ne_true (is_better b a) (λ other. elim (lesser_is b.outcome.down b.outcome.total a.outcome.down
    a.outcome.total other) [
      | inl low ↦ elim (lesser_is a.outcome.down a.outcome.total b.outcome.down b.outcome.total less) [
        | inl high ↦ omega arith
        | inr same ↦ omega (arith, same.0)
      ]
      | inr even ↦ elim (lesser_is a.outcome.down a.outcome.total b.outcome.down b.outcome.total less) [
        | inl high ↦ omega (arith, even.0)
        | inr same ↦ omega (arith, even.1, same.1)
      ]
    ])

pub not_self : (a : SweepLine) → is_better a a ≡ false
not_self a = false_from_ne_true (is_better a a) (λ is. elim (lesser_is a.outcome.down a.outcome.total a.outcome.down
    a.outcome.total is) [
      | inl low ↦ omega arith
      | inr even ↦ omega (arith, even.1)
    ])

-- the best of the first `n` lines
pub record IsBestOf (lines : List SweepLine) (n best : ℕ) : Type 0 where
  pub low : best < n
  pub first : (k : ℕ) (d : SweepLine) → k < best → is_better (get_or lines best d) (get_or lines k d) ≡ true
  pub least : (k : ℕ) (d : SweepLine) → k < n → is_better (get_or lines k d) (get_or lines best d) ≡ false

-- no line is better than the best of all, and the best is better than each in front of it
pub best_is : (lines : List SweepLine) (n best : ℕ) (d : SweepLine) → length lines ≤ n → n ≤ length lines
    → IsBestOf lines n best → best ≡ best_of lines
best_is lines n best d high low is =
    let test : SweepLine → Bool = λ line. not (list_any (λ other. is_better other line) lines) in
    let inside : best < length lines = omega (arith, is.low) in
    sym (position_or_len_is test lines best d (omega arith)
    (λ k before. ap not (list_any_at (λ other. is_better other (get_or lines k d)) lines best d inside
    (is.first k d before)))
    (λ there. ap not (list_any_none (λ other. is_better other (get_or lines best d)) lines
    (λ k e within.
    let same : get_or lines k e ≡ get_or lines k d = get_or_default lines k e d within in
    ap (λ x. is_better x (get_or lines best d)) same ∙ is.least k d (omega arith)))))

pub best_found : (lines : List SweepLine) (n best : ℕ) → length lines ≤ n → n ≤ length lines → IsBestOf lines n best
    → best ≡ best_of lines
best_found [] n best high low is = absurd (omega (arith, is.low))
best_found (first ∷ others) n best high low is = best_is (first ∷ others) n best first high low is
