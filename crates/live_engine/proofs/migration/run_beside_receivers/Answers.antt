use Rattle.std.proofs.Common.{◌≡◌, ◌<◌, map, length, subst, sym, ap, ◌∙◌, arith}
use Rattle.std.specs.Prelude.{IfOk}
use Rattle.std.proofs.lemmas.List.{get_or-map, length-map}
use Rattle.live_engine.specs.Receiving.{identity_of}
use Rattle.live_engine.specs.Runs.{AreDone}
use Rattle.live_engine.proofs.Each.{from_ok, pick, same_at}
use Rattle.live_engine.proofs.migration.run_beside_receivers.Goals as goal

pub returns : goal.returns
returns g c =
    let receivers = c.in_ok-receivers.receivers.items in
    let handles = c.run_started-done.new.handles.items in
    let count : length receivers ≡ length handles = c.in_ok-receivers.ensures.count in
    let kept : map identity_of receivers ≡ map (λ h. identity_of h.promise.receiver.value) handles =
    same_at (map identity_of receivers) (map (λ h. identity_of h.promise.receiver.value) handles)
    (length-map receivers identity_of ∙ count ∙ sym (length-map handles (λ h. identity_of h.promise.receiver.value)))
    (λ i d low.
    let inside : i < length receivers = omega (arith, low, length-map receivers identity_of) in
    let r = pick receivers i inside in
    let kept = (c.in_ok-receivers.ensures.each i r.0 (omega (arith, inside, count))).1 in
    get_or-map identity_of receivers i r.0 d inside ∙ kept.kept
    ∙ ap (λ h. identity_of h.promise.receiver.value) kept.handle_is
    ∙ sym (get_or-map (λ h. identity_of h.promise.receiver.value) handles i kept.handle d
    (omega (arith, inside, count)))) in
    record {
      done = subst (λ r. IfOk r (AreDone (g.W.WriteLog.trace c.args.migration.now.trace.now)
          c.args.migration.now.settings.now c.args.migration.now.plan.now c.args.migration.now.team
          c.args.states.items)) c.in_ok-progress.was c.run_started-done.ensures.done;
      same = kept ∙ from_ok _ _ c.in_ok-progress.was c.run_started-done.ensures.started;
    }
