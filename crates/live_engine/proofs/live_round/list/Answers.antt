use Rattle.std.proofs.Common.{List, [], ◌∷◌, ◌++◌, ap, ◌∙◌}
use Rattle.std.specs.Vec.Iter.{into_iter_items}
use Rattle.migration_model.specs.Live.{LiveRound, live_round_with}
use Rattle.live_tasks.specs.CopierStates.{CopierStateView}
use Rattle.live_engine.proofs.FirstSeats.{lists_more, rest_of}
use Rattle.live_engine.proofs.live_round.list.Goals as goal

pub loop-state-preserved : goal.loop-state-preserved
loop-state-preserved c =
    let front = c.loop-state.yielded in
    let old = into_iter_items c.loop-state.state-iterator in
    let rest = into_iter_items c.next.new.self in
    let state = c.in-Some.state in
    let before = c.loop-state.invariant.lists in
    record {
      can_next = tt;
      is_finite = tt;
      all = rest_of front old rest c.args.states.items state c.in-Some.ensures.steps.0 c.loop-state.invariant.all;
      lists = λ i. live_round_with
          ((c.in_ok-add_state.ensures.sent ∙ lists_more (λ (d : CopierStateView). d.log.sent) front state
          c.loop-state.round.sent (ap (λ (r : LiveRound). r.sent) before)) i)
          ((c.in_ok-add_state.ensures.skipped ∙ lists_more (λ (d : CopierStateView). d.log.skipped) front state
          c.loop-state.round.skipped (ap (λ (r : LiveRound). r.skipped) before)) i)
          ((c.in_ok-add_state.ensures.deferred ∙ lists_more (λ (d : CopierStateView). d.log.deferred) front state
          c.loop-state.round.deferred (ap (λ (r : LiveRound). r.deferred) before)) i);
      kept = c.in_ok-push_back.ensures.items ∙ ap (λ (ds : List CopierStateView). ds ++ state ∷ [])
          c.loop-state.invariant.kept;
    }
