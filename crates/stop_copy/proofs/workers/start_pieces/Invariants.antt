use Rattle.std.proofs.Common.{◌≡◌, ◌<◌, ◌++◌, length}
use Rattle.std.specs.List.{All, flat_map}
use Rattle.stop_copy.proofs.workers.start_pieces.Given as goal

abbrev pub invariant-loop-rest : goal.invariant-loop-rest
invariant-loop-rest g l = record {
  whole : flat_map (λ h. h.promise.pages.now) l.handles.items ++ l.rest ≡ l.pages;
  same : All (λ h. (g.W.WriteLog.trace h.promise.trace.now ≡ g.W.WriteLog.trace l.current.trace.now)
      × (h.promise.versions.now ≡ l.current.versions.now)) l.handles.items;
  low : All (λ page. page < (g.W.WriteLog.trace l.current.trace.now).pages) l.rest;
}

abbrev pub decreases-loop-rest : goal.decreases-loop-rest
decreases-loop-rest g l = length l.rest
