use Rattle.std.proofs.Common.{◌≡◌, leb, take}
use Rattle.std.specs.List.{count_by}
use Rattle.round_planner.proofs.index.count_up_to.Given as goal

abbrev pub invariant-loop-place : goal.invariant-loop-place
invariant-loop-place l = l.count ≡ count_by (λ place. leb place l.low) (take l.place-index l.places)
