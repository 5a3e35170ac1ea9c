use Rattle.std.proofs.Common.{ℕ, ◌<◌, List, length, get_or, ap, subst, ◌∙◌, arith}
use Rattle.std.proofs.lemmas.List.{length-map}
use Rattle.migration_model.specs.Touches.{GuestTouch, no_touch, touch_of}
use Rattle.dirty_words.specs.Facts.{GuestFacts}
use Rattle.live_tasks.specs.Replays.{IsStoredIfOwn}
use Rattle.live_tasks.proofs.Replaying.{replay_begins, replays_next, opens_low, replay_ends}
use Rattle.live_tasks.proofs.replayer.replay.Goals as goal

pub place_of-requires : goal.place_of-requires
place_of-requires g c =
    let trace = g.W.WriteLog.trace c.args.trace.now in
    let same = ap (λ (ts : List GuestTouch). length ts) (g.met.W.WriteLog.same_touches c.args.trace.now) in
    omega (
      arith,
      c.loop-index-test.true,
      c.before-end.ensures.bound,
      same,
      length-map trace.writes touch_of,
      c.shape.ensures.is_trace.count,
    )

pub loop-index-init : goal.loop-index-init
loop-index-init g c =
    let trace = g.W.WriteLog.trace c.args.trace.now in
    let point = rw (g.met.W.WriteLog.same_touches c.args.trace.now) at c.before-first.ensures.point in
    record {
      table = c.requires.table;
      within = λ lt. absurd (omega (arith, lt));
      is = replay_begins trace c.args.table.now.start c.args.seat.facts.number c.before-first.result c.args.seat.facts
          c.requires.idle
          (λ page own. opens_low trace c.args.ticks.from c.before-first.result c.args.table.now.start page point
          c.requires.opening
          (subst (λ (f : GuestFacts). page < length f.start.places) c.requires.idle own.page_real));
    }

pub loop-index-preserved : goal.loop-index-preserved
loop-index-preserved g c =
    let trace = g.W.WriteLog.trace c.args.trace.now in
    let touches = g.met.W.WriteLog.same_touches c.args.trace.now in
    let same = ap (λ (ts : List GuestTouch). length ts) touches in
    record {
      table = c.replay_own.ensures.table ∙ c.loop-index.invariant.table;
      within = λ lt. omega (arith, c.loop-index-test.true);
      is = replays_next trace c.args.table.now.start c.args.seat.facts.number c.before-first.result c.loop-index.index
          c.touch.inside.page
          c.loop-index.seat.facts c.replay_own.new.seat.facts c.loop-index.invariant.is c.loop-index.auto.index
          (omega (arith, c.loop-index-test.true, c.before-end.ensures.bound, same, length-map trace.writes touch_of))
          (ap (λ (t : GuestTouch). t.page) (c.touch.view_is ∙ c.touch-touch.ensures
          ∙ ap (λ (ts : List GuestTouch). get_or ts c.loop-index.index no_touch) touches))
          (subst (λ (n : ℕ). IsStoredIfOwn c.touch.inside.page n c.loop-index.seat.facts c.replay_own.new.seat.facts)
          c.place_of.ensures c.replay_own.ensures.facts);
    }

pub returns-clause-replayed : goal.returns-clause-replayed
returns-clause-replayed g c =
    let trace = g.W.WriteLog.trace c.args.trace.now in
    let first = rw (g.met.W.WriteLog.same_touches c.args.trace.now) at c.before-first.ensures.point in
    let end = rw (g.met.W.WriteLog.same_touches c.args.trace.now) at c.before-end.ensures.point in
    replay_ends trace c.args.table.now.start c.args.seat.facts.number c.args.ticks.from c.args.ticks.to
    c.before-first.result c.before-end.result
    c.loop-index.index c.loop-index.seat.facts first end c.loop-index.invariant.is
    (λ place low high. (let within = c.loop-index.invariant.within (omega (arith, low, high)) in omega
    (arith, high, within)))
    (λ place low high. omega (arith, high, c.loop-index-test.false))
