use Rattle.std.proofs.Common.{◌≡◌, ℕ, ◌+◌, ◌<◌, List, ◌++◌, ◌∷◌, [], length, get_or, take, ap, sym, ◌∙◌}
use Rattle.std.proofs.Common.{subst, arith}
use Rattle.std.specs.Prelude.{All, AllPairs, slice_set}
use Rattle.std.proofs.lemmas.List.{length-set, length_push, take_more}
use Rattle.std.proofs.lemmas.List.Elements.{All-push, All-weaker}
use Rattle.move_schedules.specs.Schedules.{AreInTurn, EndsInTime, IsNext, IsSchedule, TakeTurns, slot_free}
use Rattle.move_schedules.specs.declared.moves.Move.{Move}
use Rattle.move_schedules.specs.declared.moves.Placement.{Placement}
use Rattle.move_schedules.proofs.ScheduleLemmas.{AreInTurn-push, IsSchedule-push, TakeTurns-push, free_after, no_move}
use Rattle.move_schedules.proofs.scheduling.schedule.Goals as goal

pub loop-each-preserved : goal.loop-each-preserved
loop-each-preserved c =
    let slots = c.args.slots in
    let moves = c.args.moves.now in
    let i = c.loop-each.each-index in
    let placed : List Placement = c.loop-each.placed.items in
    let free : List ℕ = c.loop-each.free.items in
    let p = c.next_placement-placement.result in
    let before = c.loop-each.invariant in
    let move = get_or moves i no_move in
    let low : i < length moves = omega arith in
    let wide : length c.deref.result.now ≡ slots =
    ap (λ (l : List ℕ). length l) c.deref.ensures.value ∙ before.wide in
    let next : IsNext slots placed move p = subst (λ (n : ℕ). IsNext n placed move p) wide
    (subst (λ (l : List Placement). IsNext (length c.deref.result.now) l move p) c.deref-in-loop-each.ensures.value
    c.next_placement-placement.ensures.next) in
    let long : length c.deref-in-loop-each.result.now ≡ i =
    ap (λ (l : List Placement). length l) c.deref-in-loop-each.ensures.value ∙ before.long in
    let in_time : EndsInTime (i + 1) p = subst (λ (n : ℕ). EndsInTime (n + 1) p) long
    c.next_placement-placement.ensures.in_time in
    let pushed : c.push.new.self.items ≡ placed ++ p ∷ [] = c.in_ok-push.ensures.items in
    let made : IsSchedule slots (take (i + 1) moves) (placed ++ p ∷ []) =
    subst (λ (l : List Move). IsSchedule slots l (placed ++ p ∷ [])) (sym (take_more moves i no_move low))
    (IsSchedule-push slots (take i moves) placed move p before.made next) in
    let all : All (EndsInTime (i + 1)) (placed ++ p ∷ []) = All-push (EndsInTime (i + 1)) placed p
    (All-weaker (EndsInTime i) (EndsInTime (i + 1)) (λ x small. omega (arith, small)) placed before.in_time) in_time in
    record {
      made = subst (λ (l : List Placement). IsSchedule slots (take (i + 1) moves) l) (sym pushed) made;
      long = omega (arith, ap (λ (l : List Placement). length l) pushed, length_push placed p, before.long);
      wide = length-set free p.slot p.end ∙ before.wide;
      free = subst (λ (l : List Placement). (k : ℕ) → k < slots
          → get_or (slice_set free p.slot p.end) k 0 ≡ slot_free l k) (sym pushed)
          (free_after slots free placed move p next before.wide before.free);
      in_time = subst (λ (l : List Placement). All (EndsInTime (i + 1)) l) (sym pushed) all;
      in_turn = subst (λ (l : List Placement). AllPairs AreInTurn l) (sym pushed)
          (AreInTurn-push slots placed move p next before.in_turn);
      take_turns = subst (λ (l : List Placement). AllPairs TakeTurns l) (sym pushed)
          (TakeTurns-push slots placed move p next before.take_turns);
    }
