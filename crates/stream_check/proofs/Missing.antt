-- The first write that a page lacks.
use Rattle.std.proofs.Common.{◌≡◌, ℕ, ◌<◌, ◌≤◌, leb, ltb, List, [], ◌∷◌, length, get_or}
use Rattle.std.proofs.Common.{refl, sym, ap, arith}
use Rattle.std.specs.List.{All, filter}
use Rattle.std.specs.List.Sorted.{IsNonDecreasing}
use Rattle.std.proofs.lemmas.Bool.{lt-leb, le-leb}
use Rattle.std.proofs.lemmas.List.Elements.{All-filter}
use Rattle.std.proofs.lemmas.List.Kept.{IsNonDecreasingBy-filter}
use Rattle.migration_model.specs.Trace.{GuestTrace}
use Rattle.page_versions.specs.Index.{GuestIndex, IsIndexOf, places_in}
use Rattle.page_versions.proofs.Pages.{places_fit}
use Rattle.page_versions.proofs.Places.{filter_none, places_rise}

pub first_none : (stop : ℕ) (places : List ℕ) → length places ≡ 0
    → 0 ≡ get_or (filter (λ v. leb v stop) places) 0 0
first_none stop [] none = refl
first_none stop (x ∷ xs) none = absurd (omega (arith, none))

pub first_over : (stop : ℕ) (places : List ℕ) → IsNonDecreasing places → stop < get_or places 0 0
    → 0 ≡ get_or (filter (λ v. leb v stop) places) 0 0
first_over stop [] order over = refl
first_over stop (x ∷ xs) order over =
    let none : filter (λ v. leb v stop) (x ∷ xs) ≡ [] =
    filter_none (λ v. leb v stop) (x ∷ xs) (λ k d low. lt-leb (get_or (x ∷ xs) k d) stop
    (omega (arith, over, order 0 k d (omega arith) low))) in
    ap (λ (l : List ℕ). get_or l 0 0) (sym none)

pub first_within : (stop : ℕ) (places : List ℕ) → get_or places 0 0 ≤ stop
    → get_or places 0 0 ≡ get_or (filter (λ v. leb v stop) places) 0 0
first_within stop [] within = refl
first_within stop (x ∷ xs) within = rw (le-leb x stop within) refl

pub after_rise : (index : GuestIndex) (page version : ℕ)
    → IsNonDecreasing (filter (λ v. ltb version v) (places_in index.touches page))
after_rise index page version =
    IsNonDecreasingBy-filter (λ (v : ℕ). v) (λ v. ltb version v) (places_in index.touches page)
    (places_rise index.touches page)

head_within : (n : ℕ) (xs : List ℕ) → All (λ (v : ℕ). (1 ≤ v) × (v ≤ n)) xs → get_or xs 0 0 ≤ n
head_within n [] all = omega arith
head_within n (x ∷ xs) all = (all 0 0 (omega arith)).1

pub missing_within : (trace : GuestTrace) (index : GuestIndex) (page version stop : ℕ) → IsIndexOf index trace
    → get_or (filter (λ v. leb v stop) (filter (λ v. ltb version v) (places_in index.touches page))) 0 0
    ≤ length trace.writes
missing_within trace index page version stop of =
    let P : ℕ → Type 0 = λ v. (1 ≤ v) × (v ≤ length trace.writes) in
    head_within (length trace.writes) (filter (λ v. leb v stop) (filter (λ v. ltb version v)
    (places_in index.touches page)))
    (All-filter (λ v. leb v stop) P (filter (λ v. ltb version v) (places_in index.touches page))
    (All-filter (λ v. ltb version v) P (places_in index.touches page) (places_fit trace index page of)))
