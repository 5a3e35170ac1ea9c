-- For each page the places and ticks of its writes: together these are all touches.
use Rattle.std.proofs.Common.{◌≡◌, ℕ, ◌+◌, ◌≤◌, Bool, true, false, cond, eqb, List, [], ◌∷◌, ◌↔◌, length, map, inl, inr}
use Rattle.std.proofs.Common.{refl, sym, ap, ◌∙◌, arith}
use Rattle.std.specs.List.{filter, enumerate_from}
use Rattle.std.proofs.lemmas.Bool.{cond-true, cond-false, eq-eqb, ne_eqb, cases_eq}
use Rattle.migration_model.specs.Trace.{GuestTrace, GuestWrite}
use Rattle.migration_model.specs.Touches.{GuestTouch, touch_of, touches_of, touch_with}
use Rattle.migration_model.proofs.Places.{map_cond}
use Rattle.page_versions.specs.Index.{GuestIndex, IsIndexOf, HasWritesOf, stamps_in}

-- the place and the tick of each touch of a page, if the first of all has place s
abbrev from : ℕ → List GuestTouch → ℕ → List (ℕ × ℕ)
from s [] page = []
from s (t ∷ ts) page = cond (eqb t.page page) ((s, t.tick) ∷ from (s + 1) ts page) (from (s + 1) ts page)

from_is : (s : ℕ) (ts : List GuestTouch) (page : ℕ)
    → map (λ (at : ℕ × GuestTouch). (at.0, at.1.tick)) (filter (λ (at : ℕ × GuestTouch). eqb at.1.page page)
    (enumerate_from s ts)) ≡ from s ts page
from_is s [] page = refl
from_is s (t ∷ ts) page =
    map_cond (λ (at : ℕ × GuestTouch). (at.0, at.1.tick)) (eqb t.page page) (s, t)
    (filter (λ (at : ℕ × GuestTouch). eqb at.1.page page) (enumerate_from (s + 1) ts))
    ∙ ap (λ (l : List (ℕ × ℕ)). cond (eqb t.page page) ((s, t.tick) ∷ l) l) (from_is (s + 1) ts page)

from_writes : (s : ℕ) (ws : List GuestWrite) (page : ℕ)
    → map (λ (at : ℕ × GuestWrite). (at.0, at.1.tick)) (filter (λ (at : ℕ × GuestWrite). eqb at.1.page page)
    (enumerate_from s ws)) ≡ from s (map touch_of ws) page
from_writes s [] page = refl
from_writes s (w ∷ ws) page =
    map_cond (λ (at : ℕ × GuestWrite). (at.0, at.1.tick)) (eqb w.page page) (s, w)
    (filter (λ (at : ℕ × GuestWrite). eqb at.1.page page) (enumerate_from (s + 1) ws))
    ∙ ap (λ (l : List (ℕ × ℕ)). cond (eqb w.page page) ((s, w.tick) ∷ l) l) (from_writes (s + 1) ws page)

-- the first place, or n if there is none
abbrev head_place : ℕ → List (ℕ × ℕ) → ℕ
head_place n [] = n
head_place n (x ∷ xs) = x.0

abbrev head_tick : List (ℕ × ℕ) → ℕ
head_tick [] = 0
head_tick (x ∷ xs) = x.1

abbrev rest : List (ℕ × ℕ) → List (ℕ × ℕ)
rest [] = []
rest (x ∷ xs) = xs

cond_place : (b : Bool) (n s tick : ℕ) (l : List (ℕ × ℕ)) → s ≤ head_place n l
    → s ≤ head_place n (cond b ((s, tick) ∷ l) l)
cond_place true n s tick l above = omega arith
cond_place false n s tick l above = above

-- no place is before the first
late : (n s : ℕ) (ts : List GuestTouch) (page : ℕ) → s + length ts ≤ n → s ≤ head_place n (from s ts page)
late n s [] page low = omega (arith, low)
late n s (t ∷ ts) page low =
    let next : s + 1 ≤ head_place n (from (s + 1) ts page) = late n (s + 1) ts page (omega (arith, low)) in
    cond_place (eqb t.page page) n s t.tick (from (s + 1) ts page) (omega (arith, next))

own : (s : ℕ) (t : GuestTouch) (ts : List GuestTouch) → from s (t ∷ ts) t.page ≡ (s, t.tick) ∷ from (s + 1) ts t.page
own s t ts = cond-true (eqb t.page t.page) ((s, t.tick) ∷ from (s + 1) ts t.page) (from (s + 1) ts t.page)
    (eq-eqb t.page t.page refl)

other : (s page : ℕ) (t : GuestTouch) (ts : List GuestTouch) → (t.page ≡ page → ⊥)
    → from s (t ∷ ts) page ≡ from (s + 1) ts page
other s page t ts apart = cond-false (eqb t.page page) ((s, t.tick) ∷ from (s + 1) ts page) (from (s + 1) ts page)
    (ne_eqb t.page page apart)

-- a list with one more touch at its front shows it at its page
front : (s n : ℕ) (x : GuestTouch) (xs ys : List GuestTouch) → s + 1 + length ys ≤ n
    → from s (x ∷ xs) x.page ≡ from (s + 1) ys x.page → ⊥
front s n x xs ys low same =
    let place : s ≡ head_place n (from (s + 1) ys x.page) = ap (head_place n) (sym (own s x xs) ∙ same) in
    let after : s + 1 ≤ head_place n (from (s + 1) ys x.page) = late n (s + 1) ys x.page low in
    omega (arith, place, after)

same_page : (s : ℕ) (x y : GuestTouch) (xs ys : List GuestTouch)
    → ((page : ℕ) → from s (x ∷ xs) page ≡ from s (y ∷ ys) page) → y.page ≡ x.page
same_page s x y xs ys same = elim (cases_eq y.page x.page) [
  | inl is ↦ is
  | inr apart ↦ absurd (front s (s + 1 + length ys) x xs ys (omega arith) (same x.page ∙ other s x.page y ys apart))
]

pub all_from_pages : (s : ℕ) (xs ys : List GuestTouch) → ((page : ℕ) → from s xs page ≡ from s ys page) → xs ≡ ys
all_from_pages s [] [] same = refl
all_from_pages s (x ∷ xs) [] same = absurd (front s (s + 1) x xs [] (omega arith) (same x.page))
all_from_pages s [] (y ∷ ys) same = absurd (front s (s + 1) y ys [] (omega arith) (sym (same y.page)))
all_from_pages s (x ∷ xs) (y ∷ ys) same =
    let page : y.page ≡ x.page = same_page s x y xs ys same in
    let here : (s, x.tick) ∷ from (s + 1) xs x.page ≡ (s, y.tick) ∷ from (s + 1) ys x.page =
    sym (own s x xs) ∙ same x.page
    ∙ cond-true (eqb y.page x.page) ((s, y.tick) ∷ from (s + 1) ys x.page) (from (s + 1) ys x.page)
    (eq-eqb y.page x.page page) in
    let tick : x.tick ≡ y.tick = ap head_tick here in
    let tail : (p : ℕ) → from (s + 1) xs p ≡ from (s + 1) ys p =
    λ p. elim (cases_eq x.page p) [
      | inl is ↦ rw (sym is) (ap rest here)
      | inr apart ↦ sym (other s p x xs apart) ∙ same p ∙ other s p y ys (λ e. apart (sym page ∙ e))
    ] in
    let first : x ≡ y = ap (λ (p : ℕ). touch_with x.tick p) (sym page) ∙ ap (λ (t : ℕ). touch_with t y.page) tick in
    ap (λ (t : GuestTouch). t ∷ xs) first ∙ ap (λ (l : List GuestTouch). y ∷ l) (all_from_pages (s + 1) xs ys tail)

-- an index is that of a trace exactly if it has, for each page, the places and ticks of its writes
pub of_each_page : (index : GuestIndex) (trace : GuestTrace) → IsIndexOf index trace ↔ HasWritesOf index trace
of_each_page index trace = (
  (λ is. (
    is.0,
    λ page. ap (λ (l : List GuestTouch). stamps_in l page) is.1 ∙ from_is 1 (touches_of trace) page
        ∙ sym (from_writes 1 trace.writes page),
  )),
  (λ has. (
    has.0,
    all_from_pages 1 index.touches (touches_of trace)
        (λ page. sym (from_is 1 index.touches page) ∙ has.1 page ∙ from_writes 1 trace.writes page),
  )),
)
