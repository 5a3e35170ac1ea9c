use Rattle.std.proofs.Common.{◌≡◌, ◌≤◌, ℕ, Vec, Global, List, [], ◌∷◌, ◌++◌, length, map, sym, ap, subst, ◌∙◌}
use Rattle.std.specs.List.{All}
use Rattle.std.specs.Vec.Iter.{into_iter_items}
use Rattle.std.proofs.lemmas.List.{map-append}
use Rattle.std.proofs.lemmas.List.Elements.{All-push}
use Rattle.stream_lanes.specs.Ends.{OutView}
use Rattle.stream_lanes.proofs.Turned.{next_holds}
use Rattle.live_tasks.specs.CopierStates.{CopierStateView, IsCopierState}
use Rattle.live_engine.specs.Lists.{rows_of}
use Rattle.live_engine.proofs.FirstSeats.{rest_of}
use Rattle.live_engine.proofs.opening.new_states.Goals as goal

pub new-requires-clause-some : goal.new-requires-clause-some
new-requires-clause-some c =
    next_holds (λ (row : Vec OutView Global). 1 ≤ length row.items) c.loop-row.yielded
    (into_iter_items c.loop-row.row-iterator) (into_iter_items c.next.new.self) c.args.rows.items c.in-Some.row
    c.in-Some.ensures.steps.0 c.loop-row.invariant.all c.requires.some

pub new-requires-clause-few : goal.new-requires-clause-few
new-requires-clause-few c =
    next_holds (λ (row : Vec OutView Global). length row.items ≤ 16) c.loop-row.yielded
    (into_iter_items c.loop-row.row-iterator) (into_iter_items c.next.new.self) c.args.rows.items c.in-Some.row
    c.in-Some.ensures.steps.0 c.loop-row.invariant.all c.requires.few

pub loop-row-preserved : goal.loop-row-preserved
loop-row-preserved c =
    let items = c.in_ok-push_back.ensures.items in
    let states = c.loop-row.states.items in
    let state = c.in_ok-new.field-0 in
    let front = c.loop-row.yielded in
    let old = into_iter_items c.loop-row.row-iterator in
    let rest = into_iter_items c.next.new.self in
    let row = c.in-Some.row in
    record {
      can_next = tt;
      is_finite = tt;
      all = rest_of front old rest c.args.rows.items row c.in-Some.ensures.steps.0 c.loop-row.invariant.all;
      rows = ap rows_of items ∙ map-append (λ (d : CopierStateView). d.outs) states (state ∷ [])
          ∙ ap (λ (rows : List (List OutView)). rows ++ state.outs ∷ []) c.loop-row.invariant.rows
          ∙ ap (λ (outs : List OutView). map (λ (r : Vec OutView Global). r.items) front ++ outs ∷ [])
          c.in_ok-new.ensures.outs
          ∙ sym (map-append (λ (r : Vec OutView Global). r.items) front (row ∷ []));
      each = λ trace streams same.
          let one : IsCopierState trace streams state = subst (λ (n : ℕ). IsCopierState trace n state)
          (next_holds (λ (r : Vec OutView Global). length r.items ≡ streams) front old rest c.args.rows.items row
          c.in-Some.ensures.steps.0 c.loop-row.invariant.all same) (c.in_ok-new.ensures.state trace) in
          subst (All (IsCopierState trace streams)) (sym items)
          (All-push (IsCopierState trace streams) states state (c.loop-row.invariant.each trace streams same) one);
    }
