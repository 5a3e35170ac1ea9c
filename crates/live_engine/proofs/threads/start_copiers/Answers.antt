use Rattle.std.proofs.Common.{◌≡◌, ℕ, ◌+◌, List, ◌++◌, ◌∷◌, [], length, slice_index_or, sym, ap, subst, ◌∙◌, arith}
use Rattle.std.specs.List.{All}
use Rattle.std.specs.Vec.Iter.{into_iter_items}
use Rattle.std.proofs.lemmas.List.{length-append}
use Rattle.std.proofs.lemmas.List.Elements.{All-head, All-rest}
use Rattle.dirty_words.specs.Facts.{first_copier}
use Rattle.dirty_words.specs.Seats.{CopyView, copy_table}
use Rattle.live_tasks.specs.CopierStates.{CopierStateView, IsCopierState}
use Rattle.live_engine.specs.Lists.{rows_of}
use Rattle.live_engine.specs.Seated.{EachAt, copy_task}
use Rattle.live_engine.proofs.Each.{each_push}
use Rattle.live_engine.proofs.FirstSeats.{copier_at, rest_of, row_first, one_longer}
use Rattle.live_engine.proofs.threads.start_copiers.Goals as goal

pub start_copier-requires-clause-table : goal.start_copier-requires-clause-table
start_copier-requires-clause-table g c κs within =
    ap copy_table (copier_at c.args.round.now.table.now c.args.seats.items c.loop-seat.yielded
    (into_iter_items c.loop-seat.seat-iterator) (into_iter_items c.next.new.self) c.in-Some.seat
    c.requires.seats c.in-Some.ensures.steps.0 c.loop-seat.invariant.rest)

pub start_copier-requires-clause-idle : goal.start_copier-requires-clause-idle
start_copier-requires-clause-idle g c κs within =
    let first = copier_at c.args.round.now.table.now c.args.seats.items c.loop-seat.yielded
    (into_iter_items c.loop-seat.seat-iterator) (into_iter_items c.next.new.self) c.in-Some.seat
    c.requires.seats c.in-Some.ensures.steps.0 c.loop-seat.invariant.rest in
    ap (λ (s : CopyView). s.facts) first ∙ sym (ap
    (λ (s : CopyView). first_copier c.args.round.now.table.now.start s.facts.number) first)

pub start_copier-requires-clause-state : goal.start_copier-requires-clause-state
start_copier-requires-clause-state g c κs within =
    All-head (IsCopierState (g.W.WriteLog.trace c.args.round.now.trace.now) c.args.round.now.streams)
    c.in-Some-pop_front.state c.pop_front.new.self.items
    (subst (All (IsCopierState (g.W.WriteLog.trace c.args.round.now.trace.now) c.args.round.now.streams))
    c.in-Some-pop_front.ensures.items c.loop-seat.invariant.states)

pub loop-seat-preserved : goal.loop-seat-preserved
loop-seat-preserved g c =
    let before = c.loop-seat.handles.items in
    let handle = c.in_ok-handle.handle in
    let first = copier_at c.args.round.now.table.now c.args.seats.items c.loop-seat.yielded
    (into_iter_items c.loop-seat.seat-iterator) (into_iter_items c.next.new.self) c.in-Some.seat
    c.requires.seats c.in-Some.ensures.steps.0 c.loop-seat.invariant.rest in
    let items : c.push_reserved.new.self.items ≡ before ++ handle ∷ [] = c.push_reserved.ensures.items
    ∙ ap (λ hs. hs ++ handle ∷ []) c.reserve.ensures.items in
    let number : c.in-Some.seat.facts.number ≡ length before = ap (λ (s : CopyView). s.facts.number) first
    ∙ sym c.loop-seat.invariant.count in
    let passed = c.loop-seat.invariant.passed in
    let state : CopierStateView = c.in-Some-pop_front.state in
    let left : List CopierStateView = c.pop_front.new.self.items in
    let outs : state.outs ≡ slice_index_or (rows_of c.args.states.items) (length before) [] =
    row_first passed.0 c.loop-seat.states.items left c.args.states.items state (length before)
    c.in-Some-pop_front.ensures.items passed.2 (c.loop-seat.invariant.count ∙ sym passed.1) in
    record {
      can_next = tt;
      is_finite = tt;
      count = one_longer before handle c.loop-seat.yielded c.in-Some.seat c.push_reserved.new.self.items items
          c.loop-seat.invariant.count;
      rest = rest_of c.loop-seat.yielded (into_iter_items c.loop-seat.seat-iterator) (into_iter_items c.next.new.self)
          c.args.seats.items c.in-Some.seat
          c.in-Some.ensures.steps.0 c.loop-seat.invariant.rest;
      count_left = grind (
        arith,
        c.in-Some-pop_front.ensures.len,
        c.loop-seat.invariant.count_left,
        ap length
            c.in-Some.ensures.steps.0,
      );
      passed = (
        passed.0 ++ state ∷ [],
        length-append passed.0 (state ∷ []) ∙ ap (λ (n : ℕ). n + 1) passed.1
            ∙ sym (length-append c.loop-seat.yielded (c.in-Some.seat ∷ [])),
        rest_of passed.0 c.loop-seat.states.items left c.args.states.items state c.in-Some-pop_front.ensures.items
            passed.2,
      );
      states = All-rest (IsCopierState (g.W.WriteLog.trace c.args.round.now.trace.now) c.args.round.now.streams)
          c.in-Some-pop_front.state c.pop_front.new.self.items c.loop-seat.states.items
          (c.in-Some-pop_front.ensures.items) c.loop-seat.invariant.states;
      started = subst (λ hs. EachAt (λ h i. h.promise
          ≡ copy_task (g.W.WriteLog.trace c.args.round.now.trace.now) c.args.round.now.skip c.args.round.now.table.now
          c.args.round.now.streams i (slice_index_or (rows_of c.args.states.items) i [])) hs) (sym items)
          (each_push (λ h i. h.promise ≡ copy_task (g.W.WriteLog.trace c.args.round.now.trace.now) c.args.round.now.skip
          c.args.round.now.table.now c.args.round.now.streams i (slice_index_or (rows_of c.args.states.items) i []))
          before handle c.loop-seat.invariant.started
          (c.in_ok-handle.ensures.promised ∙ (λ i. copy_task (g.W.WriteLog.trace c.args.round.now.trace.now)
          c.args.round.now.skip c.args.round.now.table.now c.args.round.now.streams (number i) (outs i))));
    }
