-- Places of the elements of a list that pass a test.
use Rattle.std.proofs.Common.{◌≡◌, ℕ, zero, suc, ◌+◌, ◌-◌, ◌<◌, ◌≤◌, Bool, true, false, cond, leb, ltb, eqb, ◌&&◌, List}
use Rattle.std.proofs.Common.{[], ◌∷◌, length, take, drop, map, get_or, refl, sym, ap, ◌∙◌, arith}
use Rattle.std.specs.List.{All, enumerate_from, filter, fold}
use Rattle.std.specs.List.Sorted.{IsNonDecreasingBy, IsNonDecreasing}
use Rattle.std.proofs.lemmas.Bool.{cond_both, cond-true, cond-false, le-leb, lt-leb, le-ltb, lt-ltb}
use Rattle.std.proofs.lemmas.List.{length-map}
use Rattle.std.proofs.lemmas.List.FromFn.{length-enumerate_from}
use Rattle.std.proofs.lemmas.List.Sums.{count_by-le-length, length-filter}
use Rattle.std.proofs.lemmas.List.Elements.{All-nil, All-cons, All-head, All-tail, All-weaker}
use Rattle.migration_model.specs.Trace.{GuestTrace, GuestWrite}
use Rattle.migration_model.specs.Touches.{GuestTouch, AreTouches, touch_of, touches_of, no_touch}
use Rattle.migration_model.proofs.Places.{from, from_is}
use Rattle.page_versions.specs.Index.{GuestIndex, IsIndexOf, places_in, places_of}
use Rattle.page_versions.specs.Layout.{tick_at}

from_map : {X Y : Type 0} (f : X → Y) (q : Y → Bool) (s : ℕ) (xs : List X)
    → from q s (map f xs) ≡ from (λ x. q (f x)) s xs
from_map f q s [] = refl
from_map f q s (x ∷ xs) = ap (λ (l : List ℕ). cond (q (f x)) (s ∷ l) l) (from_map f q (s + 1) xs)

pub places_in_is : (touches : List GuestTouch) (page : ℕ) → places_in touches page
    ≡ from (λ (t : GuestTouch). eqb t.page page) 1 touches
places_in_is touches page = from_is (λ (t : GuestTouch). eqb t.page page) 1 touches

pub places_of_is : (trace : GuestTrace) (page : ℕ) → places_of trace page
    ≡ from (λ (w : GuestWrite). eqb w.page page) 1 trace.writes
places_of_is trace page = from_is (λ (w : GuestWrite). eqb w.page page) 1 trace.writes

-- the places of a trace's touches are those of its writes
pub same_places : (trace : GuestTrace) (page : ℕ) → places_in (touches_of trace) page ≡ places_of trace page
same_places trace page =
    places_in_is (touches_of trace) page ∙ from_map touch_of (λ (t : GuestTouch). eqb t.page page) 1 trace.writes
    ∙ sym (places_of_is trace page)

pub places_of_index : (index : GuestIndex) (trace : GuestTrace) (page : ℕ) → IsIndexOf index trace
    → places_in index.touches page ≡ places_of trace page
places_of_index index trace page is = ap (λ (l : List GuestTouch). places_in l page) is.1 ∙ same_places trace page

pub bounds : {X : Type 0} (q : X → Bool) (s : ℕ) (xs : List X)
    → All (λ (v : ℕ). (s ≤ v) × (v < s + length xs)) (from q s xs)
bounds q s [] = All-nil (λ (v : ℕ). (s ≤ v) × (v < s + 0))
bounds q s (x ∷ xs) =
    let rest : All (λ (v : ℕ). (s ≤ v) × (v < s + suc (length xs))) (from q (s + 1) xs) =
    All-weaker (λ (v : ℕ). (s + 1 ≤ v) × (v < s + 1 + length xs)) (λ (v : ℕ). (s ≤ v) × (v < s + suc (length xs)))
    (λ v is. (omega (arith, is.0), omega (arith, is.1))) (from q (s + 1) xs) (bounds q (s + 1) xs) in
    cond_both (q x) (s ∷ from q (s + 1) xs) (from q (s + 1) xs)
    (λ (l : List ℕ). All (λ (v : ℕ). (s ≤ v) × (v < s + suc (length xs))) l)
    (λ _. All-cons (λ (v : ℕ). (s ≤ v) × (v < s + suc (length xs))) s (from q (s + 1) xs) (omega arith, omega arith)
    rest) (λ _. rest)

pub rises-cons : {X : Type 0} (m : X → ℕ) (x : X) (xs : List X) → All (λ y. m x ≤ m y) xs → IsNonDecreasingBy m xs
    → IsNonDecreasingBy m (x ∷ xs)
rises-cons m x xs above order zero zero d le low = omega arith
rises-cons m x xs above order zero (suc j) d le low = above j d (omega arith)
rises-cons m x xs above order (suc i) zero d le low = absurd (omega arith)
rises-cons m x xs above order (suc i) (suc j) d le low = order i j d (omega arith) (omega arith)

-- what never decreases from place to place never decreases along such places
pub rises : {X : Type 0} (q : X → Bool) (s : ℕ) (xs : List X) (m : ℕ → ℕ)
    → ((i j : ℕ) → s ≤ i → i ≤ j → j < s + length xs → m i ≤ m j) → IsNonDecreasingBy m (from q s xs)
rises q s [] m up = λ i j d le low. absurd (omega arith)
rises q s (x ∷ xs) m up =
    let rest : IsNonDecreasingBy m (from q (s + 1) xs) = rises q (s + 1) xs m
    (λ i j low le high. up i j (omega arith) le (omega arith)) in
    let above : All (λ (y : ℕ). m s ≤ m y) (from q (s + 1) xs) =
    All-weaker (λ (v : ℕ). (s + 1 ≤ v) × (v < s + 1 + length xs)) (λ (y : ℕ). m s ≤ m y)
    (λ v is. up s v (omega arith) (omega (arith, is.0)) (omega (arith, is.1))) (from q (s + 1) xs)
    (bounds q (s + 1) xs) in
    cond_both (q x) (s ∷ from q (s + 1) xs) (from q (s + 1) xs) (λ (l : List ℕ). IsNonDecreasingBy m l)
    (λ _. rises-cons m s (from q (s + 1) xs) above rest) (λ _. rest)

pub places_rise : (touches : List GuestTouch) (page : ℕ) → IsNonDecreasing (places_in touches page)
places_rise touches page =
    rw (places_in_is touches page) (rises (λ (t : GuestTouch). eqb t.page page) 1 touches (λ v. v)
    (λ i j low le high. le))

pub ticks_rise : (pages : ℕ) (touches : List GuestTouch) (page : ℕ) → AreTouches pages touches
    → IsNonDecreasingBy (tick_at touches) (places_in touches page)
ticks_rise pages touches page fits =
    rw (places_in_is touches page) (rises (λ (t : GuestTouch). eqb t.page page) 1 touches (tick_at touches)
    (λ i j low le high. fits.in_order (i - 1) (j - 1) no_touch (omega arith) (omega arith)))

-- ---- the places that pass a test of their own

pub filter_none : {X : Type 0} (p : X → Bool) (xs : List X) → All (λ x. p x ≡ false) xs → filter p xs ≡ []
filter_none p [] fails = refl
filter_none p (x ∷ xs) fails =
    cond-false (p x) (x ∷ filter p xs) (filter p xs) (All-head (λ x. p x ≡ false) x xs fails)
    ∙ filter_none p xs (All-tail (λ x. p x ≡ false) x xs fails)

pub filter_all : {X : Type 0} (p : X → Bool) (xs : List X) → All (λ x. p x ≡ true) xs → filter p xs ≡ xs
filter_all p [] passes = refl
filter_all p (x ∷ xs) passes =
    cond-true (p x) (x ∷ filter p xs) (filter p xs) (All-head (λ x. p x ≡ true) x xs passes)
    ∙ ap (λ l. x ∷ l) (filter_all p xs (All-tail (λ x. p x ≡ true) x xs passes))

filter_cond : (r : ℕ → Bool) (b c : Bool) (s : ℕ) (l : List ℕ) → r s ≡ c
    → filter r (cond b (s ∷ l) l) ≡ cond (b && c) (s ∷ filter r l) (filter r l)
filter_cond r true c s l is = ap (λ (t : Bool). cond t (s ∷ filter r l) (filter r l)) is
filter_cond r false c s l is = refl

filter_cond_true : (r : ℕ → Bool) (b : Bool) (s : ℕ) (l : List ℕ) → r s ≡ true
    → filter r (cond b (s ∷ l) l) ≡ cond b (s ∷ filter r l) (filter r l)
filter_cond_true r true s l is = ap (λ (t : Bool). cond t (s ∷ filter r l) (filter r l)) is
filter_cond_true r false s l is = refl

filter_cond_false : (r : ℕ → Bool) (b : Bool) (s : ℕ) (l : List ℕ) → r s ≡ false
    → filter r (cond b (s ∷ l) l) ≡ filter r l
filter_cond_false r true s l is = ap (λ (t : Bool). cond t (s ∷ filter r l) (filter r l)) is
filter_cond_false r false s l is = refl

-- those up to a place are the places in a front of the list
pub places_upto : {X : Type 0} (q : X → Bool) (s : ℕ) (xs : List X) (version k : ℕ) → version + 1 ≡ s + k
    → filter (λ (v : ℕ). leb v version) (from q s xs) ≡ from q s (take k xs)
places_upto q s xs version zero is =
    filter_none (λ (v : ℕ). leb v version) (from q s xs)
    (All-weaker (λ (v : ℕ). (s ≤ v) × (v < s + length xs)) (λ (v : ℕ). leb v version ≡ false)
    (λ v b. lt-leb v version (omega (arith, is, b.0))) (from q s xs) (bounds q s xs))
places_upto q s [] version (suc k) is = refl
places_upto q s (x ∷ xs) version (suc k) is =
    filter_cond_true (λ (v : ℕ). leb v version) (q x) s (from q (s + 1) xs) (le-leb s version (omega (arith, is)))
    ∙ ap (λ (l : List ℕ). cond (q x) (s ∷ l) l) (places_upto q (s + 1) xs version k (omega (arith, is)))

-- those past a place are the places in the rest of it
pub places_past : {X : Type 0} (q : X → Bool) (s : ℕ) (xs : List X) (version k : ℕ) → version + 1 ≡ s + k
    → filter (λ (v : ℕ). ltb version v) (from q s xs) ≡ from q (s + k) (drop k xs)
places_past q s xs version zero is =
    let here : s ≡ s + 0 = omega arith in
    filter_all (λ (v : ℕ). ltb version v) (from q s xs)
    (All-weaker (λ (v : ℕ). (s ≤ v) × (v < s + length xs)) (λ (v : ℕ). ltb version v ≡ true)
    (λ v b. lt-ltb version v (omega (arith, is, b.0))) (from q s xs) (bounds q s xs))
    ∙ ap (λ (n : ℕ). from q n xs) here
places_past q s [] version (suc k) is = refl
places_past q s (x ∷ xs) version (suc k) is =
    let place : s + 1 + k ≡ s + suc k = omega arith in
    filter_cond_false (λ (v : ℕ). ltb version v) (q x) s (from q (s + 1) xs) (le-ltb version s (omega (arith, is)))
    ∙ places_past q (s + 1) xs version k (omega (arith, is))
    ∙ ap (λ (n : ℕ). from q n (drop k xs)) place

-- those whose elements pass one more test
pub places_both : {X : Type 0} (q t : X → Bool) (r : ℕ → Bool) (s : ℕ) (xs : List X)
    → ((i : ℕ) (d : X) → i < length xs → r (s + i) ≡ t (get_or xs i d))
    → filter r (from q s xs) ≡ from (λ x. q x && t x) s xs
places_both q t r s [] same = refl
places_both q t r s (x ∷ xs) same =
    let here : s ≡ s + 0 = omega arith in
    let rest = places_both q t r (s + 1) xs (λ i d low.
    let there : s + 1 + i ≡ s + suc i = omega arith in
    ap r there ∙ same (suc i) d (omega arith)) in
    filter_cond r (q x) (t x) s (from q (s + 1) xs) (ap r here ∙ same 0 x (omega arith))
    ∙ ap (λ (l : List ℕ). cond (q x && t x) (s ∷ l) l) rest

-- ---- a fold over the elements at such places

fold_cond : {B : Type 0} (g : B → ℕ → B) (c : Bool) (b : B) (s : ℕ) (l : List ℕ)
    → fold g b (cond c (s ∷ l) l) ≡ fold g (cond c (g b s) b) l
fold_cond g true b s l = refl
fold_cond g false b s l = refl

pub fold_places : {X B : Type 0} (f : B → X → B) (look : ℕ → X) (q : X → Bool) (s : ℕ) (xs : List X) (b : B)
    → ((i : ℕ) (d : X) → i < length xs → look (s + i) ≡ get_or xs i d)
    → fold (λ b v. f b (look v)) b (from q s xs) ≡ fold (λ b x. cond (q x) (f b x) b) b xs
fold_places f look q s [] b same = refl
fold_places {X} {B} f look q s (x ∷ xs) b same =
    let here : s ≡ s + 0 = omega arith in
    let head : look s ≡ x = ap look here ∙ same 0 x (omega arith) in
    fold_cond (λ (b : B) (v : ℕ). f b (look v)) (q x) b s (from q (s + 1) xs)
    ∙ ap (λ (y : X). fold (λ (b : B) (v : ℕ). f b (look v)) (cond (q x) (f b y) b) (from q (s + 1) xs)) head
    ∙ fold_places f look q (s + 1) xs (cond (q x) (f b x) b) (λ i d low.
    let there : s + 1 + i ≡ s + suc i = omega arith in
    ap look there ∙ same (suc i) d (omega arith))

-- a page has no more places than there are touches
pub places_few : (touches : List GuestTouch) (page : ℕ) → length (places_in touches page) ≤ length touches
places_few touches page =
    let own : ℕ × GuestTouch → Bool = λ at. eqb at.1.page page in
    omega (
      arith,
      length-map (filter own (enumerate_from 1 touches)) (λ (at : ℕ × GuestTouch). at.0),
      length-filter own (enumerate_from 1 touches),
      count_by-le-length own (enumerate_from 1 touches),
      length-enumerate_from 1 touches,
    )
