use Rattle.std.proofs.Common.{◌≡◌, ◌≤◌, ◌^◌, length}
use Rattle.std.specs.List.{All}
use Rattle.page_versions.specs.Pages.{put_all}
use Rattle.page_versions.proofs.bytes.put_writes.Given as goal

abbrev pub invariant-loop-rest : goal.invariant-loop-rest
invariant-loop-rest g l = record {
  room : length l.bytes ≡ 2 ^ (g.W.WriteLog.trace l.trace).shift;
  places : All (λ place. (1 ≤ place) × (place ≤ length (g.W.WriteLog.trace l.trace).writes)) l.rest;
  made : put_all (g.W.WriteLog.trace l.trace) l.bytes l.rest
      ≡ put_all (g.W.WriteLog.trace l.trace) l.fn.bytes l.fn.places;
}

abbrev pub decreases-loop-rest : goal.decreases-loop-rest
decreases-loop-rest g l = length l.rest
