-- Elements and their indexes.
use Rattle.std.proofs.Common.{Result, Ok, IfOk, ◌≡◌, ℕ, zero, suc, ◌+◌, ◌<◌, inl, inr, List, [], ◌∷◌, ◌++◌, length}
use Rattle.std.proofs.Common.{get_or, map, refl, sym, ap, subst, ◌∙◌, arith}
use Rattle.std.specs.Prelude.{OnOk, Some, slice_get}
use Rattle.std.specs.List.{All, Any, range_with_len}
use Rattle.std.proofs.lemmas.Bool.{cases_lt}
use Rattle.std.proofs.lemmas.List.{get_or_append_left, get_or-append-add, length-append, get_or_default, get_or-map}
use Rattle.std.proofs.lemmas.List.{length-map}
use Rattle.std.proofs.lemmas.List.FromFn.{length-map-range_with_len, get_or-map-range_with_len}
use Rattle.std.proofs.lemmas.Option.{slice_get_within, get_or_from_slice_get, slice_get-get_or}
use Rattle.live_engine.specs.Seated.{EachAt}

pub pick : {X : Type 0} (xs : List X) (i : ℕ) → i < length xs → (x : X) × (x ≡ get_or xs i x)
pick [] i low = absurd (omega (arith, low))
pick (x ∷ xs) zero low = (x, refl)
pick (x ∷ xs) (suc i) low = pick xs i (omega (arith, low))

pub each_from : {X : Type 0} (Holds : X → ℕ → Type 0) (xs : List X)
    → ((i : ℕ) (d : X) → i < length xs → Holds (get_or xs i d) i) → EachAt Holds xs
each_from Holds xs all i low = let p = pick xs i low in (p.0, p.1, subst (λ x. Holds x i) (sym p.1) (all i p.0 low))

pub each_none : {X : Type 0} (Holds : X → ℕ → Type 0) (xs : List X) → length xs ≡ 0 → EachAt Holds xs
each_none Holds xs none i low = absurd (omega (arith, none, low))

pub each_push : {X : Type 0} (Holds : X → ℕ → Type 0) (xs : List X) (x : X) → EachAt Holds xs → Holds x (length xs)
    → EachAt Holds (xs ++ x ∷ [])
each_push {X} Holds xs x all one i low =
    let len : length (xs ++ x ∷ []) ≡ length xs + 1 = length-append xs (x ∷ []) in
    elim (cases_lt i (length xs)) [
      | inl inside ↦ let e = all i inside in (e.0, e.1 ∙ sym (get_or_append_left xs (x ∷ []) e.0 i inside), e.2)
      | inr last ↦
          let end : i ≡ length xs + 0 = omega (arith, last, low, len) in (
            x,
            sym (ap (λ (k : ℕ). get_or (xs ++ x ∷ []) k x) end ∙ get_or-append-add xs (x ∷ []) 0 x),
            subst
                (λ (k : ℕ). Holds x k) (let e : length xs ≡ i = omega (arith, end) in e) one,
          )
    ]

-- the fact at an element that is there
pub each_got : {X : Type 0} (Holds : X → ℕ → Type 0) (xs : List X) (i : ℕ) (x : X) → EachAt Holds xs → slice_get xs i
    ≡ Some x → Holds x i
each_got Holds xs i x all there =
    let e = all i (slice_get_within xs i x there) in
    subst (λ y. Holds y i) (e.1 ∙ get_or_from_slice_get xs i x e.0 there) e.2

-- an element of a list that is made by index
pub made_at : {X : Type 0} (f : ℕ → X) (n : ℕ) (front : List X) (x : X) (rest : List X) → front ++ (x ∷ rest)
    ≡ map f (range_with_len 0 n) → x ≡ f (length front)
made_at f n front x rest is =
    let len : length front + suc (length rest) ≡ n = sym (length-append front (x ∷ rest)) ∙ ap length is
    ∙ length-map-range_with_len f 0 n in
    let at : get_or (front ++ x ∷ rest) (length front + 0) x ≡ x = get_or-append-add front (x ∷ rest) 0 x in
    let place : length front + 0 ≡ length front = omega arith in
    sym at ∙ ap (λ (k : ℕ). get_or (front ++ x ∷ rest) k x) place ∙ ap (λ xs. get_or xs (length front) x) is
    ∙ get_or-map-range_with_len f 0 n (length front) (length front) x (omega (arith, len)) (omega arith)

-- what each of a list of handles was told and each result keeps holds for the results
pub each_kept : {H X : Type 0} (Told : H → ℕ → Type 0) (Kept : H → X → Type 0) (Holds : X → ℕ → Type 0) (hs : List H)
    (xs : List X) → length xs ≡ length hs
    → EachAt Told hs → EachAt (λ x i. (h : H) × (h ≡ get_or hs i h) × Kept h x) xs
    → ((h : H) (x : X) (i : ℕ) → Told h i → Kept h x → Holds x i) → EachAt Holds xs
each_kept Told Kept Holds hs xs len told kept both i low =
    let k = kept i low in
    let t = told i (omega (arith, low, len)) in
    let inside : i < length hs = omega (arith, low, len) in
    let same : t.0 ≡ k.2.0 = t.1 ∙ get_or_default hs i t.0 k.2.0 inside ∙ sym k.2.1 in
    (k.0, k.1, both k.2.0 k.0 i (subst (λ h. Told h i) same t.2) k.2.2)

-- results none of which is refused
pub each_ok : {X E : Type 0} (Holds : X → ℕ → Type 0) (xs : List X) (rs : List (Result X E)) → map Ok xs ≡ rs
    → EachAt (λ r i. IfOk r (λ x. Holds x i)) rs → EachAt Holds xs
each_ok {X} {E} Holds xs rs is all i low =
    let p = pick xs i low in
    let len : length rs ≡ length xs = sym (ap length is) ∙ length-map xs Ok in
    let e = all i (omega (arith, low, len)) in
    let there : e.0 ≡ Ok p.0 = e.1 ∙ ap (λ (l : List (Result X E)). get_or l i e.0) (sym is)
    ∙ get_or-map Ok xs i p.0 e.0 low ∙ ap Ok (sym p.1) in
    (p.0, p.1, subst (λ r. IfOk r (λ x. Holds x i)) there e.2)

-- some element, and its index
pub any_at : {X : Type 0} (P : X → Type 0) (xs : List X) (i : ℕ) (x : X) → slice_get xs i ≡ Some x → P x → Any P xs
any_at P xs i x there holds = (i, x, slice_get_within xs i x there, get_or_from_slice_get xs i x x there, holds)

pub any_there : {X : Type 0} (P : X → Type 0) (xs : List X) → Any P xs → (i : ℕ) × (x : X) × (slice_get xs i ≡ Some x)
    × P x
any_there P xs some =
    let low = some.2 in
    let at = some.3 in
    (some.0, some.1, slice_get-get_or xs some.0 some.1 low ∙ ap Some at, some.4)

-- an element of a list that was made from another
pub made_of : {X Y : Type 0} (f : X → Y) (xs : List X) (i : ℕ) (y : Y) → slice_get (map f xs) i ≡ Some y → (x : X)
    × (slice_get xs i ≡ Some x) × (f x ≡ y)
made_of f xs i y there =
    let len : length (map f xs) ≡ length xs = length-map xs f in
    let within = slice_get_within (map f xs) i y there in
    let low : i < length xs = omega (arith, within, len) in
    let p = pick xs i low in (
      p.0,
      slice_get-get_or xs i p.0 low ∙ ap Some (sym p.1),
      ap f p.1 ∙ sym (get_or-map f xs i p.0 y low) ∙ get_or_from_slice_get (map f xs) i y y there,
    )

pub makes_at : {X Y : Type 0} (f : X → Y) (xs : List X) (i : ℕ) (x : X) → slice_get xs i ≡ Some x
    → slice_get (map f xs) i ≡ Some (f x)
makes_at f xs i x there =
    let low = slice_get_within xs i x there in
    let len : length (map f xs) ≡ length xs = length-map xs f in
    slice_get-get_or (map f xs) i (f x) (omega (arith, low, len))
    ∙ ap Some (get_or-map f xs i x (f x) low ∙ ap f (get_or_from_slice_get xs i x x there))

-- a list with as many elements as another, each of them the same
pub same_at : {X : Type 0} (xs ys : List X) → length xs ≡ length ys
    → ((i : ℕ) (d : X) → i < length xs → get_or xs i d ≡ get_or ys i d) → xs ≡ ys
same_at [] [] len each = refl
same_at [] (y ∷ ys) len each = absurd (omega (arith, len))
same_at (x ∷ xs) [] len each = absurd (omega (arith, len))
same_at (x ∷ xs) (y ∷ ys) len each = λ i. each 0 x (omega arith) i
    ∷ same_at xs ys (omega (arith, len)) (λ k d low. each (suc k) d (omega (arith, low))) i

pub all_at : {X : Type 0} (P : X → Type 0) (xs : List X) → ((i : ℕ) (x : X) → slice_get xs i ≡ Some x → P x) → All P xs
all_at P xs each k d low = each k (get_or xs k d) (slice_get-get_or xs k d low)

-- lists of the same images have the same images of elements at an index
pub same_image : {X Y Z : Type 0} (f : X → Z) (g : Y → Z) (xs : List X) (ys : List Y) (i : ℕ) (x : X) → map f xs
    ≡ map g ys → slice_get xs i ≡ Some x
    → (y : Y) × (slice_get ys i ≡ Some y) × (f x ≡ g y)
same_image f g xs ys i x same there =
    let found = made_of g ys i (f x) (ap (λ l. slice_get l i) (sym same) ∙ makes_at f xs i x there) in
    (found.0, found.1, sym found.2)

-- what holds if a call is not refused holds for one that was not
pub from_ok : {X E P : Type 0} (r : Result X E) (x : X) → r ≡ Ok x → OnOk r P → P
from_ok {X} {E} {P} r x ok = subst (λ (q : Result X E). OnOk q P → P) (sym ok) (λ p. p)
