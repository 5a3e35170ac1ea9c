use Rattle.stop_copy.proofs.Pieced.{AreMade-from_each, AreMadeOf-from}
use Rattle.stop_copy.proofs.workers.make_in_scope.Goals as goal

pub returns : goal.returns
returns g c =
    let trace = g.W.WriteLog.trace c.args.current.now.trace.now in
    let versions = c.args.current.now.versions.now in
    let handles = c.start_pieces-started.new.handles.items in
    let made = c.in_ok-made.field-0.items in
    AreMadeOf-from trace versions c.args.pages.now (λ h. h.promise.pages.now) handles made
    c.in_ok-started.ensures.pieces
    (AreMade-from_each trace versions (λ h. h.promise.pages.now) handles made c.in_ok-made.ensures.count
    (λ i d low.
    let k = (c.in_ok-made.ensures.each i d low).1 in
    let is = c.in_ok-started.ensures.same i k.handle low in
    (k.handle, k.handle_is, rw (← is.0, ← is.1, ← k.handle_is) k.kept)))
