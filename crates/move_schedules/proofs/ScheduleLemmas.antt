-- A schedule with one more move.
use Rattle.std.proofs.Common.{◌≡◌, ℕ, ◌+◌, ◌*◌, ◌^◌, ◌≤◌, ◌<◌, List, [], ◌∷◌, ◌++◌, length, get_or, take, ap, ◌∙◌, sym}
use Rattle.std.proofs.Common.{subst, refl, Option, Some, None, true, false, eqb, eq-eqb, inl, inr, arith}
use Rattle.std.specs.Prelude.{◌≢◌, All, AllPairs, max, if◌then◌else◌, slice_set}
use Rattle.std.specs.List.{slice_get}
use Rattle.std.proofs.lemmas.Bool.{cases_lt, cases_eq, false_from_ne_true, eqb-true}
use Rattle.std.proofs.lemmas.List.{get_or-set_other, get_or-set_same, get_or_append_left, get_or_push, length_push}
use Rattle.std.proofs.lemmas.List.{take-append-le, take_at}
use Rattle.std.proofs.lemmas.List.Elements.{All-weaker}
use Rattle.std.proofs.lemmas.List.Quantifiers.{all_pairs_push}
use Rattle.std.proofs.lemmas.Option.{get_or_from_slice_get, slice_get_read, slice_get_within}
use Rattle.move_schedules.specs.Schedules.{AreInTurn, EndsInTime, IsNext, IsSchedule, TakeTurns, group_free}
use Rattle.move_schedules.specs.Schedules.{group_start, is_group, is_in_group, slot_free}
use Rattle.move_schedules.specs.declared.moves.Move.{Move}
use Rattle.move_schedules.specs.declared.moves.Placement.{Placement}
use Rattle.move_schedules.proofs.GreatestLemmas.{greatest-le, greatest_more, greatest_push, le-greatest, picked}
use Rattle.move_schedules.proofs.GreatestLemmas.{picked-le, unpicked}

-- what an element is of which nothing is known
abbrev pub no_placement : Placement
no_placement = record { slot = 0; group = None; start = 0; end = 0 }

abbrev pub no_move : Move
no_move = record { time = 0; bytes = 0; downtime = 0; is_kept = false; group = None }

-- an element of a list with one more: before that, and that
get_front : {X : Type 0} (xs : List X) (y x : X) (k : ℕ) → k < length xs → slice_get (xs ++ y ∷ []) k ≡ Some x
    → slice_get xs k ≡ Some x
get_front xs y x k low at = slice_get_read xs (length xs) k x refl low
    (sym (get_or_from_slice_get (xs ++ y ∷ []) k x x at) ∙ get_or_append_left xs (y ∷ []) x k low)

get_last : {X : Type 0} (xs : List X) (y x : X) (k : ℕ) → length xs ≡ k → slice_get (xs ++ y ∷ []) k ≡ Some x → y ≡ x
get_last xs y x k is at = sym (get_or_push xs y x k is) ∙ get_or_from_slice_get (xs ++ y ∷ []) k x x at

module _ (slots : ℕ) (moves : List Move) (placed : List Placement) (move : Move) (p : Placement)
    (before : IsSchedule slots moves placed) (next : IsNext slots placed move p) where
  front_next : (k : ℕ) (m : Move) (q : Placement) → k < length placed → slice_get (moves ++ move ∷ []) k ≡ Some m
      → slice_get (placed ++ p ∷ []) k ≡ Some q → IsNext slots (take k (placed ++ p ∷ [])) m q
  front_next k m q low at there =
      subst (λ (l : List Placement). IsNext slots l m q) (sym (take-append-le k placed (p ∷ []) (omega arith)))
      (before.next k m q (get_front moves move m k (omega (arith, before.each_once)) at)
      (get_front placed p q k low there))

  last_next : (k : ℕ) (m : Move) (q : Placement) → length placed ≡ k → slice_get (moves ++ move ∷ []) k ≡ Some m
      → slice_get (placed ++ p ∷ []) k ≡ Some q → IsNext slots (take k (placed ++ p ∷ [])) m q
  last_next k m q is at there =
      subst (λ (l : List Placement). IsNext slots l m q) (sym (take_at placed (p ∷ []) k is))
      (subst (λ (each : Move). IsNext slots placed each q) (get_last moves move m k (sym before.each_once ∙ is) at)
      (subst (λ (each : Placement). IsNext slots placed move each) (get_last placed p q k is there) next))

  pub IsSchedule-push : IsSchedule slots (moves ++ move ∷ []) (placed ++ p ∷ [])
  IsSchedule-push = record {
    each_once = omega (arith, length_push placed p, length_push moves move, before.each_once);
    next = λ k m q at there. elim (cases_lt k (length placed)) [
      | inl low ↦ front_next k m q low at there
      | inr high ↦ last_next k m q
          (omega (arith, slice_get_within (placed ++ p ∷ []) k q there, length_push placed p)) at there
    ];
  }

-- what is placed in a slot ends before the slot is free, and what is of a group before the group is
slot_done : (placed : List Placement) (slot k : ℕ) (d : Placement) → k < length placed → (get_or placed k d).slot ≡ slot
    → (get_or placed k d).end ≤ slot_free placed slot
slot_done placed slot k d low same =
    let q = get_or placed k d in
    let seen : (if eqb q.slot slot then q.end else 0) ≤ slot_free placed slot =
    le-greatest (λ (x : Placement). if eqb x.slot slot then x.end else 0) placed k d low in
    let is : (if eqb q.slot slot then q.end else 0) ≡ q.end =
    picked (eqb q.slot slot) q.end (eq-eqb q.slot slot same) in
    omega (arith, seen, is)

group_done : (placed : List Placement) (group k : ℕ) (d : Placement) → k < length placed
    → (get_or placed k d).group ≡ Some group → (get_or placed k d).end ≤ group_free placed group
group_done placed group k d low same =
    let q = get_or placed k d in
    let seen : (if is_in_group group q then q.end else 0) ≤ group_free placed group =
    le-greatest (λ (x : Placement). if is_in_group group x then x.end else 0) placed k d low in
    let own : is_in_group group q ≡ true =
    ap (λ (o : Option ℕ). is_group group o) same ∙ eq-eqb group group refl in
    let is : (if is_in_group group q then q.end else 0) ≡ q.end = picked (is_in_group group q) q.end own in
    omega (arith, seen, is)

module _ (slots : ℕ) (placed : List Placement) (move : Move) (p : Placement) (next : IsNext slots placed move p) where
  pub AreInTurn-push : AllPairs AreInTurn placed → AllPairs AreInTurn (placed ++ p ∷ [])
  AreInTurn-push pairs = all_pairs_push AreInTurn placed p pairs (λ k d low same.
      omega (arith, slot_done placed p.slot k d low same, next.start))

  waits : (group : ℕ) → p.group ≡ Some group → group_free placed group ≤ p.start
  waits group own =
      let is : group_start placed move.group ≡ group_free placed group =
      ap (λ (o : Option ℕ). group_start placed o) (sym next.group ∙ own) in
      omega (arith, is, next.start)

  pub TakeTurns-push : AllPairs TakeTurns placed → AllPairs TakeTurns (placed ++ p ∷ [])
  TakeTurns-push pairs = all_pairs_push TakeTurns placed p pairs (λ k d low group same own.
      omega (arith, group_done placed group k d low same, waits group own))

  -- when the slots are free then
  pub slot_free-own : slot_free (placed ++ p ∷ []) p.slot ≡ p.end
  slot_free-own =
      let is = picked (eqb p.slot p.slot) p.end (eq-eqb p.slot p.slot refl) in
      omega (
        arith,
        greatest_push (λ (x : Placement). if eqb x.slot p.slot then x.end else 0) placed p,
        is,
        next.start,
        next.end,
      )

  pub slot_free-other : (k : ℕ) → k ≢ p.slot → slot_free (placed ++ p ∷ []) k ≡ slot_free placed k
  slot_free-other k other =
      let is = unpicked (eqb p.slot k) p.end
      (false_from_ne_true (eqb p.slot k) (λ same. other (sym (eqb-true p.slot k same)))) in
      omega (arith, greatest_push (λ (x : Placement). if eqb x.slot k then x.end else 0) placed p, is)

-- what ends in time leaves slots and groups free in time
pub slot_in_time : (placed : List Placement) (count slot : ℕ) → All (EndsInTime count) placed
    → slot_free placed slot ≤ count * 2 ^ 64
slot_in_time placed count slot all = greatest-le (λ (x : Placement). if eqb x.slot slot then x.end else 0)
    (count * 2 ^ 64) placed (All-weaker (EndsInTime count)
    (λ (x : Placement). (if eqb x.slot slot then x.end else 0) ≤ count * 2 ^ 64)
    (λ x low. picked-le (eqb x.slot slot) x.end (count * 2 ^ 64) low) placed all)

group_in_time : (placed : List Placement) (count group : ℕ) → All (EndsInTime count) placed
    → group_free placed group ≤ count * 2 ^ 64
group_in_time placed count group all = greatest-le (λ (x : Placement). if is_in_group group x then x.end else 0)
    (count * 2 ^ 64) placed (All-weaker (EndsInTime count)
    (λ (x : Placement). (if is_in_group group x then x.end else 0) ≤ count * 2 ^ 64)
    (λ x low. picked-le (is_in_group group x) x.end (count * 2 ^ 64) low) placed all)

pub start_in_time : (placed : List Placement) (count : ℕ) (group : Option ℕ) → All (EndsInTime count) placed
    → group_start placed group ≤ count * 2 ^ 64
start_in_time placed count None all = omega arith
start_in_time placed count (Some group) all = group_in_time placed count group all

-- the slots after one more move, if they were known before it
pub free_after : (slots : ℕ) (free : List ℕ) (placed : List Placement) (move : Move) (p : Placement)
    → IsNext slots placed move p → length free ≡ slots
    → ((k : ℕ) → k < slots → get_or free k 0 ≡ slot_free placed k)
    → (k : ℕ) → k < slots → get_or (slice_set free p.slot p.end) k 0 ≡ slot_free (placed ++ p ∷ []) k
free_after slots free placed move p next wide same k low = elim (cases_eq k p.slot) [
  | inl is ↦ subst (λ (j : ℕ). get_or (slice_set free p.slot p.end) j 0 ≡ slot_free (placed ++ p ∷ []) j) (sym is)
      (get_or-set_same free p.slot p.end 0 (omega (arith, next.in_range, wide))
      ∙ sym (slot_free-own slots placed move p next))
  | inr other ↦ get_or-set_other free p.slot k p.end 0 other ∙ same k low
      ∙ sym (slot_free-other slots placed move p next k other)
]

-- when a group is free after one more move: one of it, and another
pub group_free-more_in : (placed : List Placement) (group i : ℕ) (d : Placement) → i < length placed
    → is_in_group group (get_or placed i d) ≡ true
    → group_free (take (i + 1) placed) group ≡ max (group_free (take i placed) group) (get_or placed i d).end
group_free-more_in placed group i d low is = omega (
  arith,
  greatest_more (λ (x : Placement). if is_in_group group x then x.end else 0) placed i d low,
  picked (is_in_group group (get_or placed i d)) (get_or placed i d).end is,
)

pub group_free-more_out : (placed : List Placement) (group i : ℕ) (d : Placement) → i < length placed
    → is_in_group group (get_or placed i d) ≡ false
    → group_free (take (i + 1) placed) group ≡ group_free (take i placed) group
group_free-more_out placed group i d low is = omega (
  arith,
  greatest_more (λ (x : Placement). if is_in_group group x then x.end else 0) placed i d low,
  unpicked (is_in_group group (get_or placed i d)) (get_or placed i d).end is,
)
