-- A page at its version after the first writes of a trace is as these writes leave it.
use Rattle.std.proofs.Common.{◌≡◌, ℕ, ◌<◌, ◌≤◌, leb, List, [], ◌∷◌, max, inl, inr, refl, sym, ap, ◌∙◌, arith}
use Rattle.std.specs.List.{All, filter, fold}
use Rattle.std.proofs.lemmas.Bool.{cases_lt, lt-leb, le-leb}
use Rattle.std.proofs.lemmas.List.Elements.{All-nil, All-cons, All-head, All-tail}
use Rattle.migration_model.specs.Trace.{GuestTrace, IsTrace}
use Rattle.migration_model.specs.Touches.{touches_of}
use Rattle.migration_model.specs.Versions.{page_at}
use Rattle.page_versions.specs.Index.{GuestIndex, index_with, places_of, version_after}
use Rattle.page_versions.specs.Pages.{bytes_by}
use Rattle.page_versions.proofs.Pages.{page_at_is}
use Rattle.page_versions.proofs.Places.{same_places}

-- ---- the greatest of those that are not above a bound

rises_fold : (a : ℕ) (xs : List ℕ) → a ≤ fold max a xs
rises_fold a [] = omega arith
rises_fold a (x ∷ xs) = omega (arith, rises_fold (max a x) xs)

below_fold : (n a : ℕ) (xs : List ℕ) → a ≤ n → fold max a (filter (λ v. leb v n) xs) ≤ n
below_fold n a [] low = low
below_fold n a (x ∷ xs) low = elim (cases_lt n x) [
  | inl over ↦ rw (lt-leb x n over) (below_fold n a xs low)
  | inr within ↦ rw (le-leb x n within) (below_fold n (max a x) xs (omega (arith, low, within)))
]

-- each that is not above the bound is not above the greatest of them
reached : (n a : ℕ) (xs : List ℕ) → All (λ x. x ≤ n → x ≤ fold max a (filter (λ v. leb v n) xs)) xs
reached n a [] = All-nil (λ x. x ≤ n → x ≤ a)
reached n a (x ∷ xs) = elim (cases_lt n x) [
  | inl over ↦ rw (lt-leb x n over)
      (All-cons (λ y. y ≤ n → y ≤ fold max a (filter (λ v. leb v n) xs)) x xs (λ low. absurd (omega (arith, over, low)))
      (reached n a xs))
  | inr within ↦ rw (le-leb x n within)
      (All-cons (λ y. y ≤ n → y ≤ fold max (max a x) (filter (λ v. leb v n) xs)) x xs
      (λ low. omega (arith, rises_fold (max a x) (filter (λ v. leb v n) xs))) (reached n (max a x) xs))
]

-- a lower bound that keeps all of them keeps the same
cut : (n m : ℕ) (xs : List ℕ) → m ≤ n → All (λ x. x ≤ n → x ≤ m) xs
    → filter (λ v. leb v m) xs ≡ filter (λ v. leb v n) xs
cut n m [] low keeps = refl
cut n m (x ∷ xs) low keeps =
    let rest = cut n m xs low (All-tail (λ x. x ≤ n → x ≤ m) x xs keeps) in
    elim (cases_lt n x) [
      | inl over ↦ let above : m < x = omega (arith, over, low) in rw (lt-leb x m above, lt-leb x n over) rest
      | inr within ↦
          let kept : x ≤ m = All-head (λ x. x ≤ n → x ≤ m) x xs keeps within in
          rw (le-leb x m kept, le-leb x n within) (ap (λ (l : List ℕ). x ∷ l) rest)
    ]

pub at_version : (trace : GuestTrace) (page stop : ℕ) → IsTrace trace → page < trace.pages
    → page_at trace page (version_after trace page stop) ≡ page_at trace page stop
at_version trace page stop is low =
    let index : GuestIndex = index_with trace.pages (touches_of trace) in
    let places : List ℕ = places_of trace page in
    let version : ℕ = version_after trace page stop in
    let same : filter (λ v. leb v version) places ≡ filter (λ v. leb v stop) places =
    cut stop version places (below_fold stop 0 places (omega arith)) (reached stop 0 places) in
    sym (page_at_is trace index page version is (refl, refl) low)
    ∙ ap (λ (l : List ℕ). bytes_by trace (filter (λ v. leb v version) l)) (same_places trace page)
    ∙ ap (bytes_by trace) same
    ∙ ap (λ (l : List ℕ). bytes_by trace (filter (λ v. leb v stop) l)) (sym (same_places trace page))
    ∙ page_at_is trace index page stop is (refl, refl) low
