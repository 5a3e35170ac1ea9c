use Rattle.std.proofs.Common.{◌≡◌, ◌++◌, ◌∷◌, [], length, sym, ap, subst, ◌∙◌}
use Rattle.std.specs.Vec.Iter.{into_iter_items}
use Rattle.dirty_words.specs.Facts.{first_guest}
use Rattle.dirty_words.specs.Seats.{GuestView, guest_table}
use Rattle.live_engine.specs.Seated.{EachAt, replay_task}
use Rattle.live_engine.proofs.Each.{each_push}
use Rattle.live_engine.proofs.FirstSeats.{guest_at, rest_of, one_longer}
use Rattle.live_engine.proofs.threads.start_replayers.Goals as goal

pub start_guest-requires-clause-table : goal.start_guest-requires-clause-table
start_guest-requires-clause-table g c κs within =
    ap guest_table (guest_at c.args.round.now.table.now c.args.seats.items c.loop-seat.yielded
    (into_iter_items c.loop-seat.seat-iterator) (into_iter_items c.next.new.self) c.in-Some.seat
    c.requires.seats c.in-Some.ensures.steps.0 c.loop-seat.invariant.rest)

pub start_guest-requires-clause-idle : goal.start_guest-requires-clause-idle
start_guest-requires-clause-idle g c κs within =
    let first = guest_at c.args.round.now.table.now c.args.seats.items c.loop-seat.yielded
    (into_iter_items c.loop-seat.seat-iterator) (into_iter_items c.next.new.self) c.in-Some.seat
    c.requires.seats c.in-Some.ensures.steps.0 c.loop-seat.invariant.rest in
    ap (λ (s : GuestView). s.facts) first ∙ sym (ap
    (λ (s : GuestView). first_guest c.args.round.now.table.now.start s.facts.number) first)

pub loop-seat-preserved : goal.loop-seat-preserved
loop-seat-preserved g c =
    let before = c.loop-seat.handles.items in
    let handle = c.in_ok-handle.handle in
    let first = guest_at c.args.round.now.table.now c.args.seats.items c.loop-seat.yielded
    (into_iter_items c.loop-seat.seat-iterator) (into_iter_items c.next.new.self) c.in-Some.seat
    c.requires.seats c.in-Some.ensures.steps.0 c.loop-seat.invariant.rest in
    let items : c.push_reserved.new.self.items ≡ before ++ handle ∷ [] = c.push_reserved.ensures.items
    ∙ ap (λ hs. hs ++ handle ∷ []) c.reserve.ensures.items in
    let number : c.in-Some.seat.facts.number ≡ length before = ap (λ (s : GuestView). s.facts.number) first
    ∙ sym c.loop-seat.invariant.count in
    record {
      can_next = tt;
      is_finite = tt;
      count = one_longer before handle c.loop-seat.yielded c.in-Some.seat c.push_reserved.new.self.items items
          c.loop-seat.invariant.count;
      rest = rest_of c.loop-seat.yielded (into_iter_items c.loop-seat.seat-iterator) (into_iter_items c.next.new.self)
          c.args.seats.items c.in-Some.seat
          c.in-Some.ensures.steps.0 c.loop-seat.invariant.rest;
      started = subst (λ hs. EachAt (λ h i. h.promise
          ≡ replay_task (g.W.WriteLog.trace c.args.round.now.trace.now) c.args.round.now.table.now c.args.ticks.from
          c.args.ticks.to i) hs) (sym items)
          (each_push (λ h i. h.promise ≡ replay_task (g.W.WriteLog.trace c.args.round.now.trace.now)
          c.args.round.now.table.now c.args.ticks.from c.args.ticks.to i) before handle
          c.loop-seat.invariant.started (c.in_ok-handle.ensures.promised
          ∙ ap (replay_task (g.W.WriteLog.trace c.args.round.now.trace.now) c.args.round.now.table.now
          c.args.ticks.from c.args.ticks.to) number));
    }
