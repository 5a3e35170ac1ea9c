use Rattle.std.proofs.Common.{◌≡◌, map, take}
use Rattle.page_versions.specs.Copies.{copy_of}
use Rattle.page_versions.proofs.packed.page_of.Given as goal

abbrev pub invariant-loop-place : goal.invariant-loop-place
invariant-loop-place g l = l.writes ≡ map (copy_of (g.W.WriteLog.trace l.trace)) (take l.place-index l.places)
