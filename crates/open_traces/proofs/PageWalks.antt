-- A page on the way along its own writes.
use Rattle.std.proofs.Common.{◌≡◌, ◌≢◌, ◌⊎◌, ◌↔◌, IsTrue, ℕ, suc, ◌+◌, ◌-◌, ◌^◌, ◌<◌, ◌≤◌, Bool, true, false, cond}
use Rattle.std.proofs.Common.{leb, ltb, eqb}
use Rattle.std.proofs.Common.{List}
use Rattle.std.proofs.Common.{[], ◌∷◌, ◌++◌, length, map, take, drop, get_or, max, replicate, set, inl, inr, refl, sym}
use Rattle.std.proofs.Common.{ap, subst, ◌∙◌, arith}
use Rattle.std.specs.List.{All, filter, fold, range_with_len}
use Rattle.std.proofs.lemmas.Bool.{cases_eq, cases_lt, cond-true, cond-false, cond_both, eq-eqb, eqb-true}
use Rattle.std.proofs.lemmas.Bool.{le-leb, le-ltb, lt-leb, lt-ltb, ltb-true, ne_eqb}
use Rattle.std.proofs.lemmas.List.{drop-drop, get_or-drop, get_or-map, get_or-set_other, get_or-set_same}
use Rattle.std.proofs.lemmas.List.{get_or_default}
use Rattle.std.proofs.lemmas.List.{append-nil, get_or-replicate, length-drop, length-map, length-replicate, length-set}
use Rattle.std.proofs.lemmas.List.{same_lists}
use Rattle.std.proofs.lemmas.List.{length-take, length-take-le, take_all, take_more}
use Rattle.std.proofs.lemmas.List.Sums.{fold-append}
use Rattle.std.proofs.lemmas.List.Elements.{All-head, All-nil, All-tail, All-weaker}
use Rattle.std.proofs.lemmas.List.FromFn.{get_or-range_with_len, length-range_with_len}
use Rattle.migration_model.specs.Trace.{GuestTrace, GuestWrite, IsGuestWrite}
use Rattle.migration_model.specs.Versions.{page_at}
use Rattle.migration_model.proofs.Pages.{page_replayed}
use Rattle.migration_model.proofs.Places.{from}
use Rattle.guest_log.specs.Writes.{no_write}
use Rattle.page_versions.specs.Index.{places_of, version_after}
use Rattle.page_versions.proofs.Places.{bounds, filter_none, places_of_is, places_past, places_upto}
use Rattle.open_traces.specs.Index.{next_after, versions_at}

-- the places of a page behind a place
abbrev pub behind : GuestTrace → ℕ → ℕ → List ℕ
behind trace page place = from (λ (w : GuestWrite). eqb w.page page) (1 + place) (drop place trace.writes)

filter_behind : (trace : GuestTrace) (page place : ℕ) → filter (λ (v : ℕ). ltb place v) (places_of trace page)
    ≡ behind trace page place
filter_behind trace page place =
    ap (filter (λ (v : ℕ). ltb place v)) (places_of_is trace page)
    ∙ places_past (λ (w : GuestWrite). eqb w.page page) 1 trace.writes place place (omega arith)

pub next_is : (trace : GuestTrace) (page place : ℕ) → next_after trace page place ≡ get_or (behind trace page place) 0 0
next_is trace page place = ap (λ (l : List ℕ). get_or l 0 0) (filter_behind trace page place)

-- ---- the first of some places

record IsHead {X : Type 0} (q : X → Bool) (s : ℕ) (xs : List X) (n : ℕ) (d : X) (l : List ℕ) : Type 0 where
  low : s ≤ n
  high : n < s + length xs
  passes : q (get_or xs (n - s) d) ≡ true
  rest : l ≡ n ∷ from q (n + 1) (drop (n + 1 - s) xs)

head : {X : Type 0} (q : X → Bool) (s : ℕ) (xs : List X) (n : ℕ) (d : X) → get_or (from q s xs) 0 0 ≡ n → n ≢ 0
    → IsHead q s xs n d (from q s xs)
head q s [] n d is some = absurd (some (sym is))
head q s (x ∷ xs) n d is some =
    cond_both (q x) (s ∷ from q (s + 1) xs) (from q (s + 1) xs)
    (λ (l : List ℕ). get_or l 0 0 ≡ n → IsHead q s (x ∷ xs) n d l)
    (λ passes same.
    let none : n - s ≡ 0 = omega (arith, same) in
    let one : 1 ≡ n + 1 - s = omega (arith, same) in
    record {
      low = omega (arith, same);
      high = omega (arith, same);
      passes = ap (λ (k : ℕ). q (get_or (x ∷ xs) k d)) none ∙ passes;
      rest = λ i. same i ∷ from q (same i + 1) (drop (one i) (x ∷ xs));
    })
    (λ fails same.
    let before = head q (s + 1) xs n d same some in
    let more : n - s ≡ suc (n - (s + 1)) = omega (arith, before.low) in
    let left : n + 1 - s ≡ suc (n + 1 - (s + 1)) = omega (arith, before.low) in
    record {
      low = omega (arith, before.low);
      high = omega (arith, before.high);
      passes = ap (λ (k : ℕ). q (get_or (x ∷ xs) k d)) more ∙ before.passes;
      rest = before.rest ∙ sym (ap (λ (k : ℕ). n ∷ from q (n + 1) (drop k (x ∷ xs))) left);
    })
    is

none_of : (l : List ℕ) → All (λ v. 1 ≤ v) l → get_or l 0 0 ≡ 0 → l ≡ []
none_of [] some is = refl
none_of (v ∷ l) some is = absurd (omega (arith, is, All-head (λ (v : ℕ). 1 ≤ v) v l some))

-- ---- the next write of a page

pub record IsNext (trace : GuestTrace) (page place next : ℕ) : Type 0 where
  pub later : place < next
  pub within : next ≤ length trace.writes
  pub own : (get_or trace.writes (next - 1) no_write).page ≡ page
  pub rest : behind trace page place ≡ next ∷ behind trace page next

pub IsNext-from : (trace : GuestTrace) (page place next : ℕ) → next ≡ next_after trace page place → next ≢ 0
    → place ≤ length trace.writes → IsNext trace page place next
IsNext-from trace page place next is some low =
    let q : GuestWrite → Bool = λ w. eqb w.page page in
    let at = head q (1 + place) (drop place trace.writes) next no_write (sym (is ∙ next_is trace page place)) some in
    let index : place + (next - (1 + place)) ≡ next - 1 = omega (arith, at.low) in
    let left : place + (next + 1 - (1 + place)) ≡ next = omega (arith, at.low) in
    let one : next + 1 ≡ 1 + next = omega arith in
    record {
      later = omega (arith, at.low);
      within = omega (arith, at.high, length-drop place trace.writes, low);
      own = sym (ap (λ (k : ℕ). (get_or trace.writes k no_write).page) index)
          ∙ sym (ap (λ (w : GuestWrite). w.page) (get_or-drop place trace.writes (next - (1 + place)) no_write))
          ∙ eqb-true _ page at.passes;
      rest = at.rest
          ∙ ap (λ (l : List GuestWrite). next ∷ from q (next + 1) l)
          (drop-drop (next + 1 - (1 + place)) place trace.writes ∙ ap (λ (k : ℕ). drop k trace.writes) left)
          ∙ ap (λ (k : ℕ). next ∷ from q k (drop next trace.writes)) one;
    }

behind_later : (trace : GuestTrace) (page place : ℕ) → All (λ v. place < v) (behind trace page place)
behind_later trace page place =
    let rest : List GuestWrite = drop place trace.writes in
    All-weaker (λ (v : ℕ). (1 + place ≤ v) × (v < 1 + place + length rest)) (λ (v : ℕ). place < v)
    (λ v b. omega (arith, b.0)) (behind trace page place)
    (bounds (λ (w : GuestWrite). eqb w.page page) (1 + place) rest)

-- none of those behind a place is among as many writes
none_to : (trace : GuestTrace) (page place count : ℕ) → count ≤ place
    → filter (λ (v : ℕ). leb v count) (behind trace page place) ≡ []
none_to trace page place count low =
    filter_none (λ (v : ℕ). leb v count) (behind trace page place)
    (All-weaker (λ (v : ℕ). place < v) (λ (v : ℕ). leb v count ≡ false)
    (λ v b. lt-leb v count (omega (arith, b, low))) (behind trace page place) (behind_later trace page place))

-- nor is any, if the next is not
none_left : (trace : GuestTrace) (page place next count : ℕ) → next ≡ next_after trace page place
    → place ≤ length trace.writes → (next ≡ 0) ⊎ (count < next)
    → filter (λ (v : ℕ). leb v count) (behind trace page place) ≡ []
none_left trace page place next count is low (inl none) =
    ap (filter (λ (v : ℕ). leb v count)) (none_of (behind trace page place)
    (All-weaker (λ (v : ℕ). place < v) (λ (v : ℕ). 1 ≤ v) (λ v b. omega (arith, b)) (behind trace page place)
    (behind_later trace page place))
    (sym (next_is trace page place) ∙ sym is ∙ none))
none_left trace page place next count is low (inr late) =
    let some : next ≢ 0 = λ none. omega (arith, none, late) in
    let at = IsNext-from trace page place next is some low in
    let rest : List ℕ = filter (λ (v : ℕ). leb v count) (behind trace page next) in
    ap (filter (λ (v : ℕ). leb v count)) at.rest
    ∙ cond-false (leb next count) (next ∷ rest) rest (lt-leb next count late)
    ∙ none_to trace page next count (omega (arith, late))

-- ---- its version

-- the version after some of the writes, which the next ones turn into the last
pub record Reached (trace : GuestTrace) (page version count next : ℕ) : Type 0 where
  pub within : version ≤ length trace.writes
  pub is : next ≡ next_after trace page version
  pub rest : fold max version (filter (λ (v : ℕ). leb v count) (behind trace page version))
      ≡ version_after trace page count

pub Reached-next : (trace : GuestTrace) (page version count next after : ℕ) → Reached trace page version count next
    → next ≢ 0 → next ≤ count → after ≡ next_after trace page next → Reached trace page next count after
Reached-next trace page version count next after before some low is =
    let at = IsNext-from trace page version next before.is some before.within in
    let left : List ℕ = filter (λ (v : ℕ). leb v count) (behind trace page next) in
    let here : filter (λ (v : ℕ). leb v count) (behind trace page version) ≡ next ∷ left =
    ap (filter (λ (v : ℕ). leb v count)) at.rest
    ∙ cond-true (leb next count) (next ∷ left) left (le-leb next count low) in
    let larger : next ≡ max version next = omega (arith, at.later) in
    record {
      within = at.within;
      is = is;
      rest = ap (λ (n : ℕ). fold max n left) larger ∙ sym (ap (fold max version) here) ∙ before.rest;
    }

pub Reached-all : (trace : GuestTrace) (page version count next : ℕ) → Reached trace page version count next
    → (next ≡ 0) ⊎ (count < next) → version ≡ version_after trace page count
Reached-all trace page version count next at end =
    sym (ap (fold max version) (none_left trace page version next count at.is at.within end)) ∙ at.rest

-- ---- its bytes

-- before its first write a page is zeros
pub zeros_first : (trace : GuestTrace) (page : ℕ) (room bytes : List ℕ) → page < trace.pages
    → length room ≡ 2 ^ trace.shift → bytes ≡ replicate (length room) 0 → bytes ≡ page_at trace page 0
zeros_first trace page room bytes low size zeros =
    zeros ∙ ap (λ (n : ℕ). replicate n 0) size
    ∙ sym (page_replayed trace.version trace.shift trace.pages [] page low
    (All-nil (IsGuestWrite trace.version trace.shift trace.pages)))

-- ---- the versions of all pages

from_push : {X : Type 0} (q : X → Bool) (s : ℕ) (xs : List X) (x : X)
    → from q s (xs ++ x ∷ []) ≡ from q s xs ++ cond (q x) ((s + length xs) ∷ []) []
from_push q s [] x =
    let here : s ≡ s + 0 = omega arith in
    ap (λ (k : ℕ). cond (q x) (k ∷ []) []) here
from_push q s (y ∷ xs) x =
    let next : s + 1 + length xs ≡ s + suc (length xs) = omega arith in
    let last : List ℕ = cond (q x) ((s + suc (length xs)) ∷ []) [] in
    ap (λ (l : List ℕ). cond (q y) (s ∷ l) l)
    (from_push q (s + 1) xs x ∙ ap (λ (k : ℕ). from q (s + 1) xs ++ cond (q x) (k ∷ []) []) next)
    ∙ cond-append (q y) s (from q (s + 1) xs) last
  where
    cond-append : (b : Bool) (k : ℕ) (l more : List ℕ) → cond b (k ∷ l ++ more) (l ++ more) ≡ cond b (k ∷ l) l ++ more
    cond-append true k l more = refl
    cond-append false k l more = refl

greatest_low : (least most : ℕ) (l : List ℕ) → least ≤ most → All (λ v. v ≤ most) l → fold max least l ≤ most
greatest_low least most [] low all = low
greatest_low least most (v ∷ l) low all =
    let here = All-head (λ (v : ℕ). v ≤ most) v l all in
    greatest_low (max least v) most l (omega (arith, low, here)) (All-tail (λ (v : ℕ). v ≤ most) v l all)

version_is : (trace : GuestTrace) (page count : ℕ) → version_after trace page count
    ≡ fold max 0 (from (λ (w : GuestWrite). eqb w.page page) 1 (take count trace.writes))
version_is trace page count =
    ap (fold max 0) (ap (filter (λ (v : ℕ). leb v count)) (places_of_is trace page)
    ∙ places_upto (λ (w : GuestWrite). eqb w.page page) 1 trace.writes count count (omega arith))

-- one more write counts, if it is to the page
version_next : (trace : GuestTrace) (page place : ℕ) (write : GuestWrite) → place < length trace.writes
    → write ≡ get_or trace.writes place write → version_after trace page (place + 1)
    ≡ cond (eqb write.page page) (place + 1) (version_after trace page place)
version_next trace page place write low at =
    let q : GuestWrite → Bool = λ w. eqb w.page page in
    let front : List GuestWrite = take place trace.writes in
    let places : List ℕ = from q 1 front in
    let size : length front ≡ place = length-take-le place trace.writes (omega (arith, low)) in
    let one : 1 + length front ≡ place + 1 = omega (arith, size) in
    let most : fold max 0 places ≤ place + 1 = greatest_low 0 (place + 1) places (omega arith)
    (All-weaker (λ (v : ℕ). (1 ≤ v) × (v < 1 + length front)) (λ (v : ℕ). v ≤ place + 1)
    (λ v b. omega (arith, b.1, size)) places (bounds q 1 front)) in
    version_is trace page (place + 1)
    ∙ ap (λ (l : List GuestWrite). fold max 0 (from q 1 l))
    (take_more trace.writes place write low ∙ ap (λ (w : GuestWrite). front ++ w ∷ []) (sym at))
    ∙ ap (fold max 0) (from_push q 1 front write)
    ∙ last (q write) (1 + length front) (place + 1) places one most
    ∙ ap (cond (q write) (place + 1)) (sym (version_is trace page place))
  where
    last : (b : Bool) (n k : ℕ) (l : List ℕ) → n ≡ k → fold max 0 l ≤ k
        → fold max 0 (l ++ cond b (n ∷ []) []) ≡ cond b k (fold max 0 l)
    last true n k l same most =
        let larger : max (fold max 0 l) n ≡ k = omega (arith, same, most) in
        fold-append max 0 l (n ∷ []) ∙ larger
    last false n k l same most = ap (fold max 0) (append-nil l)

-- all writes count, and no more
version_all : (trace : GuestTrace) (page count place : ℕ) → place ≡ length trace.writes → place ≤ count
    → version_after trace page place ≡ version_after trace page count
version_all trace page count place all low =
    let q : GuestWrite → Bool = λ w. eqb w.page page in
    version_is trace page place
    ∙ ap (λ (l : List GuestWrite). fold max 0 (from q 1 l))
    (take_all place trace.writes (omega (arith, all)) ∙ sym (take_all count trace.writes (omega (arith, all, low))))
    ∙ sym (version_is trace page count)

-- one version later: the stamp itself, if that write is to the page
version_step : (trace : GuestTrace) (page stamp : ℕ) → 1 ≤ stamp → stamp ≤ length trace.writes
    → version_after trace page stamp
    ≡ cond (eqb (get_or trace.writes (stamp - 1) no_write).page page) stamp (version_after trace page (stamp - 1))
version_step trace page stamp some low =
    let write : GuestWrite = get_or trace.writes (stamp - 1) no_write in
    let inside : stamp - 1 < length trace.writes = omega (arith, some, low) in
    let next : stamp - 1 + 1 ≡ stamp = omega (arith, some) in
    sym (ap (version_after trace page) next)
    ∙ version_next trace page (stamp - 1) write inside (get_or_default trace.writes (stamp - 1) no_write write inside)
    ∙ ap (λ (n : ℕ). cond (eqb write.page page) n (version_after trace page (stamp - 1))) next

-- a version comes after no more writes than it is of
version_bounds : (trace : GuestTrace) (page count : ℕ)
    → (version_after trace page count ≤ count) × (version_after trace page count ≤ length trace.writes)
version_bounds trace page count =
    let q : GuestWrite → Bool = λ w. eqb w.page page in
    let front : List GuestWrite = take count trace.writes in
    let low : (most : ℕ) → length front ≤ most → version_after trace page count ≤ most = λ most long.
    subst (λ (v : ℕ). v ≤ most) (sym (version_is trace page count))
    (greatest_low 0 most (from q 1 front) (omega arith)
    (All-weaker (λ (v : ℕ). (1 ≤ v) × (v < 1 + length front)) (λ (v : ℕ). v ≤ most)
    (λ v b. omega (arith, b.1, long)) (from q 1 front) (bounds q 1 front))) in (
      low count (omega (arith, length-take count trace.writes)),
      low (length trace.writes) (omega (arith, length-take count trace.writes)),
    )

pub version_within : (trace : GuestTrace) (page version : ℕ) → version ≡ version_after trace page version
    → version ≤ length trace.writes
version_within trace page version is = omega (arith, is, (version_bounds trace page version).1)

pub version_first : (trace : GuestTrace) (page stamp : ℕ) → stamp ≡ 0 → stamp ≡ version_after trace page stamp
version_first trace page stamp none =
    let low = (version_bounds trace page stamp).0 in
    omega (arith, none, low)

-- the place of a write to the page is a version of it
pub version_own : (trace : GuestTrace) (page stamp : ℕ) → 1 ≤ stamp → stamp ≤ length trace.writes
    → (get_or trace.writes (stamp - 1) no_write).page ≡ page → stamp ≡ version_after trace page stamp
version_own trace page stamp some low own =
    let write : GuestWrite = get_or trace.writes (stamp - 1) no_write in
    sym (version_step trace page stamp some low
    ∙ cond-true (eqb write.page page) stamp (version_after trace page (stamp - 1)) (eq-eqb write.page page own))

-- and no other place is
pub version_to : (trace : GuestTrace) (page stamp : ℕ) → 1 ≤ stamp → stamp ≤ length trace.writes
    → stamp ≡ version_after trace page stamp → (get_or trace.writes (stamp - 1) no_write).page ≡ page
version_to trace page stamp some low is =
    let write : GuestWrite = get_or trace.writes (stamp - 1) no_write in
    elim (cases_eq write.page page) [
      | inl own ↦ own
      | inr other ↦
          let before = (version_bounds trace page (stamp - 1)).0 in
          let same : stamp ≡ version_after trace page (stamp - 1) = is ∙ version_step trace page stamp some low
          ∙ cond-false (eqb write.page page) stamp (version_after trace page (stamp - 1))
          (ne_eqb write.page page other) in
          absurd (omega (arith, some, same, before))
    ]

pub version_tells : (trace : GuestTrace) (page stamp own : ℕ) → 1 ≤ stamp → stamp ≤ length trace.writes
    → own ≡ (get_or trace.writes (stamp - 1) no_write).page
    → IsTrue (eqb own page) ↔ (stamp ≡ version_after trace page stamp)
version_tells trace page stamp own some low own_is = (
  λ same. version_own trace page stamp some low (sym own_is ∙ eqb-true own page same),
  λ is. eq-eqb own page (own_is ∙ version_to trace page stamp some low is),
)

-- ---- from a version on

fold_out : (l : List ℕ) (a v : ℕ) → fold max (max a v) l ≡ max (fold max a l) v
fold_out [] a v = refl
fold_out (w ∷ l) a v =
    let turned : max (max a v) w ≡ max (max a w) v = omega arith in
    ap (λ (n : ℕ). fold max n l) turned ∙ fold_out l (max a w) v

fold_least : (l : List ℕ) (a : ℕ) → a ≤ fold max a l
fold_least [] a = omega arith
fold_least (w ∷ l) a =
    let rest = fold_least l (max a w) in
    omega (arith, rest)

-- the greatest of the numbers up to one is that of those up to a lower one, and then of those in between
fold_between : (low high : ℕ) (l : List ℕ) (a : ℕ) → low ≤ high
    → fold max (fold max a (filter (λ (v : ℕ). leb v low) l))
    (filter (λ (v : ℕ). leb v high) (filter (λ (v : ℕ). ltb low v) l))
    ≡ fold max a (filter (λ (v : ℕ). leb v high) l)
fold_between low high [] a rise = refl
fold_between low high (w ∷ l) a rise =
    let few : List ℕ = filter (λ (v : ℕ). leb v low) l in
    let past : List ℕ = filter (λ (v : ℕ). ltb low v) l in
    let many : List ℕ = filter (λ (v : ℕ). leb v high) l in
    let mid : List ℕ = filter (λ (v : ℕ). leb v high) past in
    elim (cases_lt low w) [
      | inl above ↦
          let out : cond (leb w low) (w ∷ few) few ≡ few = cond-false (leb w low) (w ∷ few) few (lt-leb w low above) in
          let kept : cond (ltb low w) (w ∷ past) past ≡ w ∷ past =
          cond-true (ltb low w) (w ∷ past) past (lt-ltb low w above) in
          (λ i. fold max (fold max a (out i)) (filter (λ (v : ℕ). leb v high) (kept i)))
          ∙ (elim (cases_lt high w) [
            | inl over ↦
                ap (fold max (fold max a few)) (cond-false (leb w high) (w ∷ mid) mid (lt-leb w high over))
                ∙ fold_between low high l a rise
                ∙ sym (ap (fold max a) (cond-false (leb w high) (w ∷ many) many (lt-leb w high over)))
            | inr within ↦
                ap (fold max (fold max a few)) (cond-true (leb w high) (w ∷ mid) mid (le-leb w high within))
                ∙ ap (λ (n : ℕ). fold max n mid) (sym (fold_out few a w))
                ∙ fold_between low high l (max a w) rise
                ∙ sym (ap (fold max a) (cond-true (leb w high) (w ∷ many) many (le-leb w high within)))
          ])
      | inr below ↦
          let kept : cond (leb w low) (w ∷ few) few ≡ w ∷ few =
          cond-true (leb w low) (w ∷ few) few (le-leb w low below) in
          let out : cond (ltb low w) (w ∷ past) past ≡ past =
          cond-false (ltb low w) (w ∷ past) past (le-ltb low w below) in
          (λ i. fold max (fold max a (kept i)) (filter (λ (v : ℕ). leb v high) (out i)))
          ∙ fold_between low high l (max a w) rise
          ∙ sym (ap (fold max a) (cond-true (leb w high) (w ∷ many) many (le-leb w high (omega (arith, below, rise)))))
    ]

Reached-from : (trace : GuestTrace) (page version count next : ℕ) → version ≡ version_after trace page version
    → version ≤ count → next ≡ next_after trace page version → Reached trace page version count next
Reached-from trace page version count next own low is = record {
  within = version_within trace page version own;
  is = is;
  rest =
      ap (λ (l : List ℕ). fold max version (filter (λ (v : ℕ). leb v count) l)) (sym (filter_behind trace page version))
      ∙ ap (λ (n : ℕ). fold max n (filter (λ (v : ℕ). leb v count)
      (filter (λ (v : ℕ). ltb version v) (places_of trace page)))) own
      ∙ fold_between version count (places_of trace page) 0 low;
}

-- a version is the last up to a place if no write to the page comes in between
pub version_still : (trace : GuestTrace) (page version count next : ℕ) → version ≡ version_after trace page version
    → version ≤ count → next ≡ next_after trace page version → (next ≡ 0) ⊎ (count < next)
    → version ≡ version_after trace page count
version_still trace page version count next own low is end =
    Reached-all trace page version count next (Reached-from trace page version count next own low is) end

-- and it is not if one does, or if it comes later itself
pub version_passed : (trace : GuestTrace) (page version count next : ℕ) → version ≡ version_after trace page version
    → version ≤ count → next ≡ next_after trace page version → next ≢ 0 → next ≤ count
    → version ≢ version_after trace page count
version_passed trace page version count next own low is some early same =
    let before = Reached-from trace page version count next own low is in
    let later = (IsNext-from trace page version next is some before.within).later in
    let more = Reached-next trace page version count next (next_after trace page next) before some early refl in
    let least = fold_least (filter (λ (v : ℕ). leb v count) (behind trace page next)) next in
    omega (arith, same, later, more.rest, least)

pub version_late : (trace : GuestTrace) (page version count : ℕ) → count < version
    → version ≢ version_after trace page count
version_late trace page version count late same =
    let low = (version_bounds trace page count).0 in
    omega (arith, late, same, low)

pub still_tells : (trace : GuestTrace) (page version count next : ℕ) → version ≡ version_after trace page version
    → version ≤ count → next ≡ next_after trace page version → next ≢ 0
    → IsTrue (ltb count next) ↔ (version ≡ version_after trace page count)
still_tells trace page version count next own low is some = (
  λ late. version_still trace page version count next own low is (inr (ltb-true count next late)),
  λ same. elim (cases_lt count next) [
    | inl late ↦ lt-ltb count next late
    | inr early ↦ absurd (version_passed trace page version count next own low is some early same)
  ],
)

-- those after the first `place` writes are put
pub record ArePutTo (trace : GuestTrace) (place : ℕ) (versions : List ℕ) : Type 0 where
  pub len : length versions ≡ trace.pages
  pub each : (page : ℕ) → page < trace.pages → get_or versions page 0 ≡ version_after trace page place

pub ArePutTo-none : (trace : GuestTrace) (versions room : List ℕ) → length room ≡ trace.pages
    → versions ≡ replicate (length room) 0 → ArePutTo trace 0 versions
ArePutTo-none trace versions room len zeros = record {
  len = ap length zeros ∙ length-replicate (length room) 0 ∙ len;
  each = λ page low.
      ap (λ (l : List ℕ). get_or l page 0) zeros ∙ get_or-replicate (length room) page 0 0 (omega (arith, low, len))
      ∙ sym (version_is trace page 0);
}

pub ArePutTo-next : (trace : GuestTrace) (place own stamp : ℕ) (versions : List ℕ) → ArePutTo trace place versions
    → place < length trace.writes → own ≡ (get_or trace.writes place no_write).page → own < trace.pages
    → stamp ≡ place + 1 → ArePutTo trace (place + 1) (set versions own stamp)
ArePutTo-next trace place own stamp versions at low own_is fits is = record {
  len = length-set versions own stamp ∙ at.len;
  each = λ page inside.
      let write : GuestWrite = get_or trace.writes place no_write in
      let next = version_next trace page place write low (get_or_default trace.writes place no_write write low) in
      elim (cases_eq page own) [
        | inl same ↦
            ap (λ (k : ℕ). get_or (set versions own stamp) k 0) same
            ∙ get_or-set_same versions own stamp 0 (omega (arith, fits, at.len)) ∙ is
            ∙ sym (cond-true (eqb write.page page) (place + 1) (version_after trace page place)
            (eq-eqb write.page page (sym own_is ∙ sym same)))
            ∙ sym next
        | inr apart ↦
            get_or-set_other versions own page stamp 0 apart ∙ at.each page inside
            ∙ sym (cond-false (eqb write.page page) (place + 1) (version_after trace page place)
            (ne_eqb write.page page (λ e. apart (sym e ∙ sym own_is))))
            ∙ sym next
      ];
}

pub ArePutTo-all : (trace : GuestTrace) (count place : ℕ) (versions : List ℕ) → ArePutTo trace place versions
    → (place ≡ count) ⊎ ((place ≡ length trace.writes) × (place ≤ count)) → versions ≡ versions_at trace count
ArePutTo-all trace count place versions at end =
    let range : List ℕ = range_with_len 0 trace.pages in
    let version : ℕ → ℕ = λ page. version_after trace page count in
    let size : length range ≡ trace.pages = length-range_with_len 0 trace.pages in
    let last : (page : ℕ) → version_after trace page place ≡ version_after trace page count = λ page. elim end [
      | inl same ↦ ap (version_after trace page) same
      | inr all ↦ version_all trace page count place all.0 all.1
    ] in
    same_lists versions (map version range) (at.len ∙ sym (length-map range version ∙ size))
    (λ page d low.
    let inside : page < trace.pages = omega (arith, low, at.len) in
    let own : 0 + page ≡ page = omega arith in
    get_or_default versions page d 0 low ∙ at.each page inside ∙ last page
    ∙ sym (get_or-map version range page 0 d (omega (arith, size, inside))
    ∙ ap version (get_or-range_with_len 0 trace.pages page 0 inside ∙ own)))
