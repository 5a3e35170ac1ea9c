-- What a binary search leaves of ascending places.
use Rattle.std.proofs.Common.{◌≡◌, ℕ, suc, ◌+◌, ◌-◌, ◌<◌, ◌≤◌, Bool, true, false, not, ltb, leb, eqb, ◌&&◌, List, []}
use Rattle.std.proofs.Common.{◌∷◌, ◌++◌, length, take, drop, map, get_or, max, inl, inr, refl, sym, ap, ◌∙◌, arith}
use Rattle.std.specs.List.{filter, fold}
use Rattle.std.specs.List.Sorted.{IsNonDecreasing, IsPartitionPoint}
use Rattle.std.proofs.lemmas.Bool.{cases_lt, leb-true, lt-ltb, lt-leb, le-ltb, le-leb}
use Rattle.std.proofs.lemmas.List.{take-append-drop, get_or-take, get_or-drop, length-append, length-drop, length-take}
use Rattle.std.proofs.lemmas.List.{append-nil, get_or-map}
use Rattle.std.proofs.lemmas.List.Elements.{filter-append}
use Rattle.migration_model.specs.Trace.{GuestTrace, GuestWrite}
use Rattle.migration_model.specs.Touches.{GuestTouch, touch_of, no_touch}
use Rattle.migration_model.specs.Versions.{version_before}
use Rattle.page_versions.specs.Index.{GuestIndex, IsIndexOf, places_in}
use Rattle.page_versions.specs.Layout.{IsCountTo, tick_at}
use Rattle.migration_model.proofs.Places.{from_is}
use Rattle.page_versions.proofs.Places.{filter_none, filter_all, places_both, places_of_index, places_of_is}

pub filter_front : {X : Type 0} (p : X → Bool) (xs : List X) (n : ℕ) → n ≤ length xs
    → IsPartitionPoint (λ x. p x ≡ true) (λ x. p x ≡ false) xs n → filter p xs ≡ take n xs
filter_front p xs n low point =
    let front : filter p (take n xs) ≡ take n xs = filter_all p (take n xs)
    (λ k d inside. let below : k < n = omega (arith, inside, length-take n xs) in rw (get_or-take n xs k d below)
    (point.0 k d (omega arith) below)) in
    let back : filter p (drop n xs) ≡ [] = filter_none p (drop n xs)
    (λ k d inside. rw (get_or-drop n xs k d) (point.1 (n + k) d (omega arith)
    (omega (arith, inside, length-drop n xs)))) in
    ap (filter p) (sym (take-append-drop n xs)) ∙ filter-append p (take n xs) (drop n xs)
    ∙ ap (λ l. l ++ filter p (drop n xs)) front ∙ ap (λ l. take n xs ++ l) back ∙ append-nil (take n xs)

pub filter_back : {X : Type 0} (p q : X → Bool) (xs : List X) (n : ℕ) → ((x : X) → q x ≡ not (p x)) → n ≤ length xs
    → IsPartitionPoint (λ x. p x ≡ true) (λ x. p x ≡ false) xs n → filter q xs ≡ drop n xs
filter_back p q xs n other low point =
    let front : filter q (take n xs) ≡ [] = filter_none q (take n xs)
    (λ k d inside. let below : k < n = omega (arith, inside, length-take n xs) in
    rw (get_or-take n xs k d below) (other (get_or xs k d) ∙ ap not (point.0 k d (omega arith) below))) in
    let back : filter q (drop n xs) ≡ drop n xs = filter_all q (drop n xs)
    (λ k d inside. rw (get_or-drop n xs k d) (other (get_or xs (n + k) d)
    ∙ ap not (point.1 (n + k) d (omega arith) (omega (arith, inside, length-drop n xs))))) in
    ap (filter q) (sym (take-append-drop n xs)) ∙ filter-append q (take n xs) (drop n xs)
    ∙ ap (λ l. l ++ filter q (drop n xs)) front ∙ back

tops : (x : ℕ) (xs : List ℕ) (d : ℕ) → IsNonDecreasing (x ∷ xs) → fold max x xs ≡ get_or (x ∷ xs) (length xs) d
tops x [] d order = refl
tops x (y ∷ ys) d order =
    let le : x ≤ y = order 0 1 d (omega arith) (omega arith) in
    let larger : max x y ≡ y = omega (arith, le) in
    ap (λ (m : ℕ). fold max m ys) larger ∙ tops y ys d (λ i j d le low. order (suc i) (suc j) d (omega arith)
    (omega arith))

pub greatest_last : (xs : List ℕ) (d : ℕ) → 1 ≤ length xs → IsNonDecreasing xs
    → get_or xs (length xs - 1) d ≡ fold max 0 xs
greatest_last [] d some order = absurd (omega (arith, some))
greatest_last (x ∷ xs) d some order =
    let last : length (x ∷ xs) - 1 ≡ length xs = omega arith in
    let first : max 0 x ≡ x = omega arith in
    ap (λ (k : ℕ). get_or (x ∷ xs) k d) last ∙ sym (tops x xs d order) ∙ ap (λ (m : ℕ). fold max m xs) (sym first)

tick_of_touch : (writes : List GuestWrite) (i : ℕ) (w : GuestWrite) → i < length writes
    → tick_at (map touch_of writes) (1 + i) ≡ (get_or writes i w).tick
tick_of_touch writes i w low =
    let back : 1 + i - 1 ≡ i = omega arith in
    ap (λ (k : ℕ). (get_or (map touch_of writes) k no_touch).tick) back
    ∙ ap (λ (t : GuestTouch). t.tick) (get_or-map touch_of writes i w no_touch low)

-- the places of an index whose touch is before a tick are those of the trace's writes before it
pub version_is : (index : GuestIndex) (trace : GuestTrace) (page tick : ℕ) → IsIndexOf index trace
    → fold max 0 (filter (λ place. ltb (tick_at index.touches place) tick) (places_in index.touches page))
    ≡ version_before trace page tick
version_is index trace page tick is =
    let test : ℕ → Bool = λ place. ltb (tick_at index.touches place) tick in
    let same : (i : ℕ) (d : GuestWrite) → i < length trace.writes
    → test (1 + i) ≡ ltb (get_or trace.writes i d).tick tick =
    λ i d low. ap (λ (l : List GuestTouch). ltb (tick_at l (1 + i)) tick) is.1
    ∙ ap (λ (k : ℕ). ltb k tick) (tick_of_touch trace.writes i d low) in
    ap (λ (l : List ℕ). fold max 0 (filter test l)) (places_of_index index trace page is ∙ places_of_is trace page)
    ∙ ap (λ (l : List ℕ). fold max 0 l)
    (places_both (λ (w : GuestWrite). eqb w.page page) (λ (w : GuestWrite). ltb w.tick tick) test 1 trace.writes same
    ∙ sym (from_is (λ (w : GuestWrite). eqb w.page page && ltb w.tick tick) 1 trace.writes))

pub after_is : (version place : ℕ) → ltb version place ≡ not (leb place version)
after_is version place = elim (cases_lt version place) [
  | inl less ↦ rw (lt-ltb version place less, lt-leb place version less) refl
  | inr le ↦ rw (le-ltb version place le, le-leb place version le) refl
]

-- how many are not after a later version: those not after an earlier one, and as many of the rest
pub count_on : (places : List ℕ) (earlier later start more : ℕ) → earlier ≤ later → IsCountTo places earlier start
    → IsCountTo (drop start places) later more
    → start + more ≡ length (filter (λ v. leb v later) places)
count_on places earlier later start more rise first rest =
    let p : ℕ → Bool = λ v. leb v later in
    let front : filter p (take start places) ≡ take start places = filter_all p (take start places)
    (λ k d inside. let below : k < start = omega (arith, inside, length-take start places) in
    rw (get_or-take start places k d below) (le-leb (get_or places k d) later
    (omega (arith, rise, leb-true (get_or places k d) earlier (first.1.0 k d (omega arith) below))))) in
    let all : filter p places ≡ take start places ++ take more (drop start places) =
    ap (filter p) (sym (take-append-drop start places)) ∙ filter-append p (take start places) (drop start places)
    ∙ ap (λ l. l ++ filter p (drop start places)) front ∙ ap (λ l. take start places ++ l)
    (filter_front p (drop start places) more rest.0 rest.1) in
    omega (
      arith,
      ap length all,
      length-append (take start places) (take more (drop start places)),
      length-take start places,
      length-take more (drop start places),
      first.0,
      rest.0,
    )
