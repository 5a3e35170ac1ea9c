use Rattle.std.proofs.Common.{◌≡◌, ◌<◌, ℕ, ◌++◌, ◌∷◌, [], ap, ◌∙◌}
use Rattle.std.proofs.lemmas.List.{take-append-drop}
use Rattle.std.proofs.lemmas.List.Elements.{All-append, All-cons, All-nil, All-drop}
use Rattle.stop_copy.proofs.Pieced.{whole-next}
use Rattle.stop_copy.proofs.workers.start_pieces.Goals as goal

pub loop-rest-preserved : goal.loop-rest-preserved
loop-rest-preserved g c =
    let before = c.loop-rest.invariant in
    let handles = c.loop-rest.handles.items in
    let handle = c.in_ok-handle.handle in
    let items = c.push_reserved.ensures.items ∙ ap (λ l. l ++ handle ∷ []) c.reserve.ensures.items in
    let one : (g.W.WriteLog.trace handle.promise.trace.now ≡ g.W.WriteLog.trace c.args.current.now.trace.now)
    × (handle.promise.versions.now ≡ c.args.current.now.versions.now) =
    (c.in_ok-handle.ensures.trace, c.in_ok-handle.ensures.versions) in
    record {
      whole = rw items
          (whole-next (λ h. h.promise.pages.now) handles handle c.split_at.result.0.now c.split_at.result.1.now
          c.loop-rest.rest.now c.args.pages.now before.whole
          c.in_ok-handle.ensures.pages ((λ i. c.split_at.ensures.front i ++ c.split_at.ensures.back i)
          ∙ take-append-drop _ c.loop-rest.rest.now));
      same = rw items
          (All-append (λ h. (g.W.WriteLog.trace h.promise.trace.now ≡ g.W.WriteLog.trace c.args.current.now.trace.now)
          × (h.promise.versions.now ≡ c.args.current.now.versions.now)) handles (handle ∷ []) before.same
          (All-cons (λ h. (g.W.WriteLog.trace h.promise.trace.now ≡ g.W.WriteLog.trace c.args.current.now.trace.now)
          × (h.promise.versions.now ≡ c.args.current.now.versions.now)) handle [] one
          (All-nil (λ h. (g.W.WriteLog.trace h.promise.trace.now ≡ g.W.WriteLog.trace c.args.current.now.trace.now)
          × (h.promise.versions.now ≡ c.args.current.now.versions.now)))));
      low = rw c.split_at.ensures.back (All-drop (λ (page : ℕ). page <
          (g.W.WriteLog.trace c.args.current.now.trace.now).pages) _ c.loop-rest.rest.now before.low);
    }
