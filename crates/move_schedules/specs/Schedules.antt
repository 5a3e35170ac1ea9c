-- Moves of guests over one link, a number of them at a time. Each slot takes the next of a list when it is free: list
-- scheduling (Graham 1969). Groups, of which one guest moves at a time, are this project's own.
use Rattle.std.specs.Prelude.{◌≡◌, ℕ, ◌+◌, ◌*◌, ◌^◌, ◌<◌, ◌≤◌, ◌==◌, max, Bool, false, if◌then◌else◌, List, length}
use Rattle.std.specs.Prelude.{take, Option, Some, None}
use Rattle.move_schedules.specs.Greatest.{greatest}
use Rattle.move_schedules.specs.declared.moves.Move.{Move}
use Rattle.move_schedules.specs.declared.moves.Placement.{Placement}
use Rattle.std.specs.List.{slice_get}

abbrev pub is_group : ℕ → Option ℕ → Bool
is_group group None = false
is_group group (Some own) = own == group

abbrev pub is_in_group : ℕ → Placement → Bool
is_in_group group p = is_group group p.group

-- when a slot is free, and when a group is, after the moves that are placed
abbrev pub slot_free : List Placement → ℕ → ℕ
slot_free placed slot = greatest (λ p. if p.slot == slot then p.end else 0) placed

abbrev pub group_free : List Placement → ℕ → ℕ
group_free placed group = greatest (λ p. if is_in_group group p then p.end else 0) placed

-- when a move may begin for its group, if it is in one
abbrev pub group_start : List Placement → Option ℕ → ℕ
group_start placed None = 0
group_start placed (Some group) = group_free placed group

-- how the next move is placed: in the slot that is free first, the first of equals, as soon as its group is free too
pub record IsNext (slots : ℕ) (placed : List Placement) (move : Move) (p : Placement) : Type 0 where
  pub in_range : p.slot < slots
  pub soonest : (k : ℕ) → k < slots → slot_free placed p.slot ≤ slot_free placed k
  pub first : (k : ℕ) → k < p.slot → slot_free placed p.slot < slot_free placed k
  pub group : p.group ≡ move.group
  pub start : p.start ≡ max (slot_free placed p.slot) (group_start placed move.group)
  pub end : p.end ≡ p.start + move.time

-- each move is placed once, in order, and each as the next after those before it
pub record IsSchedule (slots : ℕ) (moves : List Move) (placed : List Placement) : Type 0 where
  pub each_once : length placed ≡ length moves
  pub next : (k : ℕ) (move : Move) (p : Placement) → slice_get moves k ≡ Some move → slice_get placed k ≡ Some p
      → IsNext slots (take k placed) move p

-- of two moves in a slot, and of two in a group, the first ends before the second begins
abbrev pub AreInTurn : Placement → Placement → Type 0
AreInTurn p q = p.slot ≡ q.slot → p.end ≤ q.start

abbrev pub TakeTurns : Placement → Placement → Type 0
TakeTurns p q = (group : ℕ) → p.group ≡ Some group → q.group ≡ Some group → p.end ≤ q.start

-- a move ends before this many moves of the longest time would
abbrev pub EndsInTime : ℕ → Placement → Type 0
EndsInTime count p = p.end ≤ count * 2 ^ 64
