use Rattle.std.proofs.Common.{◌++◌, ◌∷◌, [], List, map, ap, sym, ◌∙◌, arith}
use Rattle.std.specs.List.{range_with_len}
use Rattle.std.proofs.lemmas.List.FromFn.{map-range_with_len_more}
use Rattle.move_schedules.specs.declared.moves.Move.{Move}
use Rattle.move_schedules.specs.Tables.{move_at}
use Rattle.move_schedules.proofs.plans.plan_of.Goals as goal

pub loop-place-preserved : goal.loop-place-preserved
loop-place-preserved c =
    let numbers = c.args.numbers.now in
    let n = c.loop-place.place in
    let before : List Move = map (move_at numbers) (range_with_len 0 n) in
    c.in_ok-push.ensures.items ∙ ap (λ (l : List Move). l ++ c.move_at.result ∷ []) c.loop-place.invariant
    ∙ ap (λ (m : Move). before ++ m ∷ []) c.move_at.ensures
    ∙ sym (map-range_with_len_more (move_at numbers) 0 n n (omega arith))
