-- Moves have one schedule.
use Rattle.std.proofs.Common.{◌≡◌, ◌∙◌, ◌+◌, ◌∷◌, ◌++◌, ℕ, ◌≤◌, ◌<◌, List, [], length, get_or, take, refl, ap, sym, subst}
use Rattle.std.proofs.Common.{inl, inr, suc, zero, arith}
use Rattle.std.proofs.lemmas.Bool.{cases_order}
use Rattle.std.proofs.Math.Seq.{take-suc}
use Rattle.std.proofs.lemmas.List.{take_all}
use Rattle.std.proofs.lemmas.Option.{slice_get-get_or}
use Rattle.move_schedules.specs.Schedules.{IsNext, IsSchedule, group_start, slot_free}
use Rattle.move_schedules.specs.declared.moves.Move.{Move}
use Rattle.move_schedules.specs.declared.moves.Placement.{Placement}
use Rattle.move_schedules.proofs.ScheduleLemmas.{no_move, no_placement}

module _ (slots : ℕ) (placed : List Placement) (move : Move) (p q : Placement) (x : IsNext slots placed move p)
    (y : IsNext slots placed move q) where
  one_slot : p.slot ≡ q.slot
  one_slot = elim (cases_order p.slot q.slot) [
    | inl same ↦ same
    | inr (inl below) ↦ absurd (omega (arith, y.first p.slot below, x.soonest q.slot y.in_range))
    | inr (inr above) ↦ absurd (omega (arith, x.first q.slot above, y.soonest p.slot x.in_range))
  ]

  -- the next move has one place
  one_next : p ≡ q
  one_next =
      let slot = one_slot in
      let group : p.group ≡ q.group = x.group ∙ sym y.group in
      let start : p.start ≡ q.start =
      omega (arith, x.start, y.start, ap (λ (n : ℕ). slot_free placed n) slot) in
      let end : p.end ≡ q.end = omega (arith, x.end, y.end, start) in
      λ i. record { slot = slot i; group = group i; start = start i; end = end i }

module _ (slots : ℕ) (moves : List Move) (a b : List Placement) (x : IsSchedule slots moves a)
    (y : IsSchedule slots moves b) where
  next_in : (c : List Placement) → IsSchedule slots moves c → (k : ℕ) → k < length moves
      → IsNext slots (take k c) (get_or moves k no_move) (get_or c k no_placement)
  next_in c z k low = z.next k (get_or moves k no_move) (get_or c k no_placement) (slice_get-get_or moves k no_move low)
      (slice_get-get_or c k no_placement (omega (arith, z.each_once)))

  same_to : (k : ℕ) → k ≤ length moves → take k a ≡ take k b
  same_to zero low = refl
  same_to (suc k) low =
      let before : take k a ≡ take k b = same_to k (omega arith) in
      let here : get_or a k no_placement ≡ get_or b k no_placement =
      one_next slots (take k b) (get_or moves k no_move) (get_or a k no_placement) (get_or b k no_placement)
      (subst (λ (l : List Placement). IsNext slots l (get_or moves k no_move) (get_or a k no_placement)) before
      (next_in a x k (omega arith))) (next_in b y k (omega arith)) in
      take-suc a k no_placement (omega (arith, x.each_once))
      ∙ ap (λ (l : List Placement). l ++ get_or a k no_placement ∷ []) before
      ∙ ap (λ (p : Placement). take k b ++ p ∷ []) here
      ∙ sym (take-suc b k no_placement (omega (arith, y.each_once)))

  pub one_schedule_of : a ≡ b
  one_schedule_of = sym (take_all (length moves) a (omega (arith, x.each_once))) ∙ same_to (length moves) (omega arith)
      ∙ take_all (length moves) b (omega (arith, y.each_once))
