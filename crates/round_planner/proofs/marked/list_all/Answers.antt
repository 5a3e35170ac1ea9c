use Rattle.std.proofs.Common.{◌≡◌, ℕ, List, ◌++◌, ◌∷◌, [], ap, arith, sym, ◌∙◌}
use Rattle.std.specs.List.{range_with_len}
use Rattle.std.proofs.lemmas.List.{length-set, take_all, take_more_set}
use Rattle.migration_model.proofs.Ranges.{range_more}
use Rattle.round_planner.proofs.marked.list_all.Goals as goal

pub loop-page-preserved : goal.loop-page-preserved
loop-page-preserved c =
    let before = c.loop-page.invariant in
    let page = c.loop-page.page in
    record {
      list = take_more_set c.loop-page.room page page (omega (arith, before.room_len, c.loop-page-test.true))
          ∙ ap (λ (l : List ℕ). l ++ page ∷ []) before.list ∙ sym (range_more page);
      room_len = length-set c.loop-page.room page page ∙ before.room_len;
      high = omega (arith, c.loop-page-test.true);
    }

pub returns : goal.returns
returns c =
    let before = c.loop-page.invariant in
    let end : c.loop-page.page ≡ c.args.count = omega (arith, before.high, c.loop-page-test.false) in
    sym (take_all c.loop-page.page c.loop-page.room (omega (arith, before.room_len, end)))
    ∙ before.list ∙ ap (λ n. range_with_len 0 n) end
