-- The lists of a round, copier by copier.
use Rattle.std.proofs.Common.{◌≡◌, ℕ, zero, suc, ◌+◌, ◌-◌, ◌<◌, ◌⊎◌, inl, inr, List, [], ◌∷◌, ◌++◌, length, map, get_or}
use Rattle.std.proofs.Common.{refl, sym, ap, subst, ◌∙◌, arith}
use Rattle.std.specs.Prelude.{Some, slice_get}
use Rattle.std.specs.List.{AllPairs, Contains, flat_map}
use Rattle.std.specs.List.Sorted.{IsStrictlyIncreasing}
use Rattle.std.proofs.lemmas.Bool.{cases_lt}
use Rattle.std.proofs.lemmas.List.{length-append, length-map, get_or-map, get_or_append_left, get_or-append-add}
use Rattle.std.proofs.lemmas.List.Kept.{AllPairs-from_increasing}
use Rattle.std.proofs.lemmas.List.Elements.{Contains-append_cases, Contains-append_left, Contains-append_right}
use Rattle.std.proofs.lemmas.List.Elements.{Contains-get_or}
use Rattle.std.proofs.lemmas.Option.{none-some, same_Some}
use Rattle.migration_model.specs.Live.{IsInScanOrder, page_copier}
use Rattle.live_tasks.proofs.Basics.{in_none}

-- the page of a pair that is listed, and a pair of a page that is
pub fst_in : (sent : List (ℕ × ℕ)) (page place : ℕ) → Contains sent (page, place)
    → Contains (map (λ (s : ℕ × ℕ). s.0) sent) page
fst_in sent page place c =
    let len : length (map (λ (s : ℕ × ℕ). s.0) sent) ≡ length sent = length-map sent (λ (s : ℕ × ℕ). s.0) in
    let low = c.1 in (
      c.0,
      omega (arith, low, len),
      get_or-map (λ (s : ℕ × ℕ). s.0) sent c.0 (page, place) page c.1
          ∙ ap (λ (s : ℕ × ℕ). s.0) c.2,
    )

pub place_of : (sent : List (ℕ × ℕ)) (page : ℕ) → Contains (map (λ (s : ℕ × ℕ). s.0) sent) page → (place : ℕ)
    × Contains sent (page, place)
place_of sent page c =
    let len : length (map (λ (s : ℕ × ℕ). s.0) sent) ≡ length sent = length-map sent (λ (s : ℕ × ℕ). s.0) in
    let low = c.1 in
    let inside : c.0 < length sent = omega (arith, low, len) in
    let at : ℕ × ℕ = get_or sent c.0 (page, 0) in
    let first : at.0 ≡ page = sym (get_or-map (λ (s : ℕ × ℕ). s.0) sent c.0 (page, 0) page inside) ∙ c.2 in
    (at.1, subst (λ (p : ℕ). Contains sent (p, at.1)) first (Contains-get_or sent c.0 (page, 0) inside))

-- an element of concatenated lists is in one of them
pub in_piece : {X Y : Type 0} (f : X → List Y) (xs : List X) (y : Y) → Contains (flat_map f xs) y → (i : ℕ) × (x : X)
    × (slice_get xs i ≡ Some x) × Contains (f x) y
in_piece f [] y c = absurd (in_none y c)
in_piece f (x ∷ xs) y c = elim (Contains-append_cases (f x) (flat_map f xs) y c) [
  | inl here ↦ (0, x, refl, here)
  | inr later ↦ let found = in_piece f xs y later in (suc found.0, found.1, found.2, found.3)
]

pub in_all : {X Y : Type 0} (f : X → List Y) (xs : List X) (i : ℕ) (x : X) (y : Y) → slice_get xs i ≡ Some x
    → Contains (f x) y → Contains (flat_map f xs) y
in_all f [] i x y there c = absurd (none-some x there)
in_all f (z ∷ xs) zero x y there c =
    Contains-append_left (f z) (flat_map f xs) y (subst (λ w. Contains (f w) y) (sym (same_Some z x there)) c)
in_all f (z ∷ xs) (suc i) x y there c = Contains-append_right (f z) (flat_map f xs) y (in_all f xs i x y there c)

pub pairs_append : {X : Type 0} (R : X → X → Type 0) (xs ys : List X) → AllPairs R xs → AllPairs R ys
    → ((x y : X) → Contains xs x → Contains ys y → R x y) → AllPairs R (xs ++ ys)
pairs_append {X} R xs ys front back across i j d lt low =
    let len : length (xs ++ ys) ≡ length xs + length ys = length-append xs ys in
    elim (cases_lt j (length xs)) [
      | inl inside ↦
          let at_i : get_or (xs ++ ys) i d ≡ get_or xs i d = get_or_append_left xs ys d i (omega (arith, lt, inside)) in
          let at_j : get_or (xs ++ ys) j d ≡ get_or xs j d = get_or_append_left xs ys d j inside in
          subst (λ x. R x (get_or (xs ++ ys) j d)) (sym at_i)
          (subst (λ y. R (get_or xs i d) y) (sym at_j) (front i j d lt inside))
      | inr behind ↦
          let place : j ≡ length xs + (j - length xs) = omega (arith, behind) in
          let at_j : get_or (xs ++ ys) j d ≡ get_or ys (j - length xs) d = ap (λ (k : ℕ). get_or (xs ++ ys) k d) place
          ∙ get_or-append-add xs ys (j - length xs) d in
          elim (cases_lt i (length xs)) [
            | inl early ↦
                let at_i : get_or (xs ++ ys) i d ≡ get_or xs i d = get_or_append_left xs ys d i early in
                subst (λ x. R x (get_or (xs ++ ys) j d)) (sym at_i) (subst (λ y. R (get_or xs i d) y) (sym at_j)
                (across (get_or xs i d) (get_or ys (j - length xs) d) (Contains-get_or xs i d early)
                (Contains-get_or ys (j - length xs) d (omega (arith, low, len, behind)))))
            | inr late ↦
                let place_i : i ≡ length xs + (i - length xs) = omega (arith, late) in
                let at_i : get_or (xs ++ ys) i d ≡ get_or ys (i - length xs) d = ap (λ (k : ℕ). get_or (xs ++ ys) k d)
                place_i ∙ get_or-append-add xs ys (i - length xs) d in
                subst (λ x. R x (get_or (xs ++ ys) j d)) (sym at_i)
                (subst (λ y. R (get_or ys (i - length xs) d) y) (sym at_j)
                (back (i - length xs) (j - length xs) d (omega (arith, lt, late)) (omega (arith, low, len, behind))))
          ]
    ]

abbrev In : ℕ → ℕ → ℕ → Type 0
In copiers page later = (page_copier copiers page < page_copier copiers later)
    ⊎ ((page_copier copiers page ≡ page_copier copiers later) × (page < later))

-- ascending pages of one copier
one_copier : (copiers number : ℕ) (pages : List ℕ) → IsStrictlyIncreasing pages
    → ((page : ℕ) → Contains pages page → page_copier copiers page ≡ number) → IsInScanOrder copiers pages
one_copier copiers number pages up own i j d lt low =
    let at_i = own (get_or pages i d) (Contains-get_or pages i d (omega (arith, lt, low))) in
    let at_j = own (get_or pages j d) (Contains-get_or pages j d low) in
    inr (at_i ∙ sym at_j, AllPairs-from_increasing pages up i j d lt low)

-- Ascending pages of each of the copiers from a number on, in order.
pub in_scan_order : {X : Type 0} (copiers : ℕ) (f : X → List ℕ) (first : ℕ) (xs : List X)
    → ((i : ℕ) (x : X) → slice_get xs i ≡ Some x → IsStrictlyIncreasing (f x)
    × ((page : ℕ) → Contains (f x) page → page_copier copiers page ≡ first + i))
    → IsInScanOrder copiers (flat_map f xs)
in_scan_order copiers f first [] all = λ i j d lt low. absurd (omega (arith, low))
in_scan_order {X} copiers f first (x ∷ xs) all =
    let own = all 0 x refl in
    let here : (page : ℕ) → Contains (f x) page → page_copier copiers page ≡ first = λ page c. own.1 page c
    ∙ (let e : first + 0 ≡ first = omega arith in e) in
    let rest : (i : ℕ) (y : X) → slice_get xs i ≡ Some y → IsStrictlyIncreasing (f y)
    × ((page : ℕ) → Contains (f y) page → page_copier copiers page ≡ first + 1 + i) =
    λ i y there. let a = all (suc i) y there in (
      a.0,
      λ page c. a.1 page c
          ∙ (let e : first + suc i ≡ first + 1 + i = omega arith in e),
    ) in
    pairs_append (In copiers) (f x) (flat_map f xs) (one_copier copiers first (f x) own.0 here)
    (in_scan_order copiers f (first + 1) xs rest)
    (λ p q in_first in_rest.
    let found = in_piece f xs q in_rest in
    let later = (rest found.0 found.1 found.2).1 q found.3 in
    inl (omega (arith, here p in_first, later)))
