use Rattle.std.proofs.Common.{◌≡◌, ◌++◌, take}
use Rattle.std.specs.List.{flat_map}
use Rattle.trace_views.specs.StartsJson.{start_object}
use Rattle.trace_views.proofs.starts_document.write_starts.Given as goal

abbrev pub invariant-loop-at : goal.invariant-loop-at
invariant-loop-at l = l.out ≡ l.fn.out ++ flat_map (start_object l.measure) (take l.at-index l.costs)
