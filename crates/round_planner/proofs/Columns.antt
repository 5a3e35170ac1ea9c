-- When pages were touched before, and what is counted by it.
use Rattle.std.proofs.Common.{◌≡◌, ℕ, zero, suc, ◌+◌, ◌-◌, ◌<◌, ◌≤◌, Bool, true, false, cond, not, ◌&&◌, ◌||◌, eqb, leb}
use Rattle.std.proofs.Common.{List, [], ◌∷◌, ◌++◌, length, get_or, take, drop, set, refl, sym, ap, subst, ◌∙◌, inl, inr}
use Rattle.std.proofs.Common.{arith}
use Rattle.std.specs.List.{count_by, filter, range_with_len}
use Rattle.std.proofs.lemmas.Bool.{cases_eq, cases_lt, eq-eqb, ne_eqb, ltb-true, ltb-false, le-leb, lt-leb, and_from}
use Rattle.std.proofs.lemmas.Bool.{and_left}
use Rattle.std.proofs.lemmas.List.{take_more, get_or-drop, length-drop, get_or_push, get_or_append_left}
use Rattle.std.proofs.lemmas.List.{get_or-set_same, get_or-set_other}
use Rattle.std.proofs.lemmas.List.Sums.{sum_by-append, sum_by-cons}
use Rattle.std.proofs.Math.Bool.{or-false, or-true}
use Rattle.migration_model.specs.Touches.{GuestTouch, no_touch, pages_written, is_written}
use Rattle.migration_model.proofs.Ranges.{filter_range_agree}
use Rattle.round_planner.specs.Scanning.{is_met}
use Rattle.round_planner.specs.Indexing.{IsPoint, IsLast}
use Rattle.round_planner.proofs.Scans.{none_met, met_more, written_at}

-- the last touch to the page of the next touch is that touch
pub last_here : (touches : List GuestTouch) (n : ℕ) → n < length touches
    → IsLast touches (n + 1) (get_or touches n no_touch).page (n + 1)
last_here touches n inside = record {
  high = omega arith;
  tells = λ from low point le.
      let t = get_or touches n no_touch in
      elim (cases_lt n low) [
        | inl above ↦
            let early : is_met touches from (n + 1) t.page ≡ false =
            none_met touches from (n + 1) t.page (λ k d a b. point.0 k d a (omega (arith, b))) in
            le-leb (n + 1) low (omega arith) ∙ sym (ap not early)
        | inr below ↦
            let late = ltb-false t.tick from (point.1 n no_touch below inside) in
            let hit : (eqb t.page t.page && leb from t.tick) ≡ true =
            and_from _ _ (eq-eqb t.page t.page refl) (le-leb from t.tick (omega (arith, late))) in
            let met : is_met touches from (n + 1) t.page ≡ true = met_more touches from n t.page inside
            ∙ ap (λ b. is_met touches from n t.page || b) hit ∙ or-true _ in
            lt-leb (n + 1) low (omega arith) ∙ sym (ap not met)
      ];
}

-- the last touch to any other page stays
pub last_other : (touches : List GuestTouch) (n page place : ℕ) → n < length touches
    → ((get_or touches n no_touch).page ≡ page → ⊥) → IsLast touches n page place
    → IsLast touches (n + 1) page place
last_other touches n page place inside other before = record {
  high = omega (arith, before.high);
  tells = λ from low point le.
      let t = get_or touches n no_touch in
      elim (cases_lt n low) [
        | inl above ↦
            let early : is_met touches from (n + 1) page ≡ false =
            none_met touches from (n + 1) page (λ k d a b. point.0 k d a (omega (arith, b))) in
            le-leb place low (omega (arith, before.high)) ∙ sym (ap not early)
        | inr below ↦
            let miss : (eqb t.page page && leb from t.tick) ≡ false = and_left _ _ (ne_eqb t.page page other) in
            let same : is_met touches from (n + 1) page ≡ is_met touches from n page =
            met_more touches from n page inside ∙ ap (λ b. is_met touches from n page || b) miss ∙ or-false _ in
            before.tells from low point below ∙ sym (ap not same)
      ];
}

-- one more touch, in a table of the last ones
pub last_more : (touches : List GuestTouch) (n pages p page : ℕ) (last : List ℕ) → n < length touches
    → length last ≡ pages → p ≡ (get_or touches n no_touch).page
    → ((q : ℕ) → q < pages → IsLast touches n q (get_or last q 0)) → page < pages
    → IsLast touches (n + 1) page (get_or (set last p (n + 1)) page 0)
last_more touches n pages p page last inside len is before low = elim (cases_eq page p) [
  | inl same ↦
      let here : get_or (set last p (n + 1)) page 0 ≡ n + 1 = ap (λ j. get_or (set last p (n + 1)) j 0) same
      ∙ get_or-set_same last p (n + 1) 0 (omega (arith, same, len, low)) in
      let at : IsLast touches (n + 1) page (n + 1) = subst (λ q. IsLast touches (n + 1) q (n + 1)) (sym (same ∙ is))
      (last_here touches n inside) in
      subst (IsLast touches (n + 1) page) (sym here) at
  | inr other ↦
      let here : get_or (set last p (n + 1)) page 0 ≡ get_or last page 0 =
      get_or-set_other last p page (n + 1) 0 other in
      subst (IsLast touches (n + 1) page) (sym here) (last_other touches n page (get_or last page 0) inside
      (λ e. other (sym e ∙ sym is)) (before page low))
]

-- one more number that has what it should
pub push_more : (P : ℕ → ℕ → Type 0) (xs new : List ℕ) (n y : ℕ) → length xs ≡ n → new ≡ xs ++ y ∷ []
    → ((i : ℕ) → i < n → P i (get_or xs i 0)) → P n y
    → (i : ℕ) → i < n + 1 → P i (get_or new i 0)
push_more P xs new n y len is before here i low = elim (cases_eq i n) [
  | inl same ↦
      let at : get_or new i 0 ≡ y = ap (λ (l : List ℕ). get_or l i 0) is
      ∙ get_or_push xs y 0 i (omega (arith, len, same)) in
      subst (P i) (sym at) (subst (λ j. P j y) (sym same) here)
  | inr other ↦
      let at : get_or new i 0 ≡ get_or xs i 0 = ap (λ (l : List ℕ). get_or l i 0) is
      ∙ get_or_append_left xs (y ∷ []) 0 i (omega (arith, len, other)) in
      subst (P i) (sym at) (before i (omega (arith, other)))
]

-- ---- counting pages

abbrev one_if : Bool → ℕ
one_if b = cond b 1 0

abbrev none_if : Bool → ℕ
none_if b = cond b 0 1

kept_len : (b : Bool) (x : ℕ) (xs : List ℕ) → length (cond b (x ∷ xs) xs) ≡ one_if b + length xs
kept_len true x xs = omega arith
kept_len false x xs = omega arith

one_of : (b : Bool) → one_if b + none_if b ≡ 1
one_of true = refl
one_of false = refl

filter_none : (f : ℕ → Bool) (a m : ℕ) → ((i : ℕ) → f i ≡ false) → length (filter f (range_with_len a m)) ≡ 0
filter_none f a zero fails = refl
filter_none f a (suc m) fails =
    let head : one_if (f a) ≡ 0 = ap one_if (fails a) in
    omega (arith, kept_len (f a) a (filter f (range_with_len (a + 1) m)), head, filter_none f (a + 1) m fails)

-- a test that one more number may pass
filter_one : (f g : ℕ → Bool) (a m p : ℕ) → a ≤ p → p < a + m → ((i : ℕ) → (i ≡ p → ⊥) → g i ≡ f i) → g p ≡ true
    → length (filter g (range_with_len a m)) ≡ length (filter f (range_with_len a m)) + none_if (f p)
filter_one f g a zero p low high same hit = absurd (omega arith)
filter_one f g a (suc m) p low high same hit =
    let kept_f = kept_len (f a) a (filter f (range_with_len (a + 1) m)) in
    let kept_g = kept_len (g a) a (filter g (range_with_len (a + 1) m)) in
    elim (cases_eq a p) [
      | inl here ↦
          let tail : length (filter g (range_with_len (a + 1) m)) ≡ length (filter f (range_with_len (a + 1) m)) =
          ap length (filter_range_agree f g (a + 1) m (λ i above below. same i (λ e. omega (arith, e, here)))) in
          let at_g : one_if (g a) ≡ 1 = ap (λ x. one_if (g x)) here ∙ ap one_if hit in
          let at_f : one_if (f a) ≡ one_if (f p) = ap (λ x. one_if (f x)) here in
          omega (arith, kept_f, kept_g, tail, at_g, at_f, one_of (f p))
      | inr apart ↦
          let head : one_if (g a) ≡ one_if (f a) = ap one_if (same a apart) in
          let tail = filter_one f g (a + 1) m p (omega (arith, apart)) (omega arith) same hit in
          omega (arith, kept_f, kept_g, head, tail)
    ]

-- how many of the first numbers from one on are not above it
abbrev pub counted : List ℕ → ℕ → ℕ → ℕ
counted places low k = count_by (λ place. leb place low) (take k (drop low places))

count_push : (low y : ℕ) (xs : List ℕ) → count_by (λ place. leb place low) (xs ++ y ∷ [])
    ≡ count_by (λ place. leb place low) xs + one_if (leb y low)
count_push low y xs =
    let one = sum_by-cons (λ place. one_if (leb place low)) y [] in
    omega (arith, sum_by-append (λ place. one_if (leb place low)) xs (y ∷ []), one)

flip : (b c : Bool) → b ≡ not c → none_if c ≡ one_if b
flip b true is = sym (ap one_if is)
flip b false is = sym (ap one_if is)

pages_met : (pages : ℕ) (touches : List GuestTouch) (places : List ℕ) (from low k : ℕ) → length places ≡ length touches
    → ((i : ℕ) → i < length touches → IsLast touches i (get_or touches i no_touch).page (get_or places i 0))
    → ((i : ℕ) → i < length touches → (get_or touches i no_touch).page < pages)
    → IsPoint touches from low → low + k ≤ length touches
    → length (filter (is_met touches from (low + k)) (range_with_len 0 pages)) ≡ counted places low k
pages_met pages touches places from low zero len last small point fits =
    let none : low + 0 ≡ low = omega arith in
    ap (λ n. length (filter (is_met touches from n) (range_with_len 0 pages))) none
    ∙ filter_none (is_met touches from low) 0 pages (λ page. none_met touches from low page point.0)
pages_met pages touches places from low (suc k) len last small point fits =
    let n = low + k in
    let t = get_or touches n no_touch in
    let place = get_or places n 0 in
    let inside : n < length touches = omega arith in
    let before = pages_met pages touches places from low k len last small point (omega arith) in
    let next : low + suc k ≡ n + 1 = omega arith in
    let late = ltb-false t.tick from (point.1 n no_touch (omega arith) inside) in
    let hit : is_met touches from (n + 1) t.page ≡ true =
    met_more touches from n t.page inside ∙ ap (λ b. is_met touches from n t.page || b)
    (and_from _ _ (eq-eqb t.page t.page refl) (le-leb from t.tick (omega (arith, late)))) ∙ or-true _ in
    let others : (i : ℕ) → (i ≡ t.page → ⊥) → is_met touches from (n + 1) i ≡ is_met touches from n i =
    λ i apart. met_more touches from n i inside ∙ ap (λ b. is_met touches from n i || b)
    (and_left _ _ (ne_eqb t.page i (λ e. apart (sym e)))) ∙ or-false _ in
    let one = filter_one (is_met touches from n) (is_met touches from (n + 1)) 0 pages t.page (omega arith)
    (omega (arith, small n inside)) others hit in
    let same = flip (leb place low) (is_met touches from n t.page)
    ((last n inside).tells from low point (omega arith)) in
    let taken : take (k + 1) (drop low places) ≡ take k (drop low places) ++ place ∷ [] =
    take_more (drop low places) k 0 (omega (arith, length-drop low places, len))
    ∙ ap (λ (x : ℕ). take k (drop low places) ++ x ∷ []) (get_or-drop low places k 0) in
    let more : k + 1 ≡ suc k = omega arith in
    ap (λ m. length (filter (is_met touches from m) (range_with_len 0 pages))) next
    ∙ one ∙ (λ i. before i + same i)
    ∙ sym (ap (λ m. counted places low m) (sym more) ∙ ap (count_by (λ x. leb x low)) taken
    ∙ count_push low place (take k (drop low places)))

-- the pages that a round dirties are as many as the touches in it that are the first of their pages
pub pages_counted : (pages : ℕ) (touches : List GuestTouch) (places : List ℕ) (from to low high : ℕ)
    → length places ≡ length touches
    → ((i : ℕ) → i < length touches → IsLast touches i (get_or touches i no_touch).page (get_or places i 0))
    → ((i : ℕ) → i < length touches → (get_or touches i no_touch).page < pages)
    → IsPoint touches from low → IsPoint touches to high → low ≤ high → high ≤ length touches
    → length (pages_written pages touches from to) ≡ counted places low (high - low)
pages_counted pages touches places from to low high len last small begin end order fits =
    let there : low + (high - low) ≡ high = omega arith in
    ap length (filter_range_agree (is_met touches from high) (is_written touches from to) 0 pages
    (λ page a b. written_at touches from to high page end))
    ∙ ap (λ n. length (filter (is_met touches from n) (range_with_len 0 pages))) (sym there)
    ∙ pages_met pages touches places from low (high - low) len last small begin (omega arith)

-- a later tick has no fewer touches before it
pub points_rise : (touches : List GuestTouch) (from to low high : ℕ) → from ≤ to → low ≤ length touches
    → IsPoint touches from low → IsPoint touches to high → low ≤ high
points_rise touches from to low high order bound begin end = elim (cases_lt high low) [
  | inl under ↦
      let early = ltb-true (get_or touches high no_touch).tick from (begin.0 high no_touch (omega arith) under) in
      let late = ltb-false (get_or touches high no_touch).tick to (end.1 high no_touch (omega arith) (omega arith)) in
      absurd (omega (arith, early, late))
  | inr over ↦ over
]
