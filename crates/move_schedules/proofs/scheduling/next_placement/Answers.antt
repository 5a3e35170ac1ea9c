use Rattle.std.proofs.Common.{◌≡◌, ℕ, ◌*◌, ◌^◌, ◌≤◌, List, Option, length, arith}
use Rattle.std.specs.Prelude.{All, max}
use Rattle.move_schedules.specs.Schedules.{EndsInTime, group_start, slot_free}
use Rattle.move_schedules.specs.declared.moves.Placement.{Placement}
use Rattle.move_schedules.proofs.ScheduleLemmas.{slot_in_time, start_in_time}
use Rattle.move_schedules.proofs.scheduling.next_placement.Goals as goal

-- a move that waits for its slot and its group begins before the moves that are placed could end, one after another
begins_in_time : (placed : List Placement) (slot free : ℕ) (group : Option ℕ) → free ≡ slot_free placed slot
    → All (EndsInTime (length placed)) placed → max free (group_start placed group) ≤ length placed * 2 ^ 64
begins_in_time placed slot free group is all =
    omega (arith, is, slot_in_time placed (length placed) slot all, start_in_time placed (length placed) group all)

pub overflow_add-result : goal.overflow_add-result
overflow_add-result c =
    let slot = c.first_least-slot.result in
    omega (
      arith,
      c.max-start.ensures,
      c.group_start.ensures,
      begins_in_time c.args.placed.now slot _
          c.args.of.now.group (c.requires.free slot c.first_least-slot.ensures.in_range) c.requires.in_time,
    )

pub returns-clause-in_time : goal.returns-clause-in_time
returns-clause-in_time c =
    let slot = c.first_least-slot.result in
    omega (
      arith,
      c.max-start.ensures,
      c.group_start.ensures,
      begins_in_time c.args.placed.now slot _
          c.args.of.now.group (c.requires.free slot c.first_least-slot.ensures.in_range) c.requires.in_time,
    )
