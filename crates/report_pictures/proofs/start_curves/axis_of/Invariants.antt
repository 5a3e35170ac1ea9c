use Rattle.std.proofs.Common.{◌≡◌, ◌-◌, ◌^◌, take}
use Rattle.std.specs.List.{fold}
use Rattle.std.specs.Prelude.{max, min}
use Rattle.predictions.specs.Starts.Costs.{CostAtStart}
use Rattle.report_pictures.proofs.start_curves.axis_of.Given as goal

abbrev pub invariant-loop-at : goal.invariant-loop-at
invariant-loop-at l = record {
  first : l.axis.first ≡ fold (λ first (at : CostAtStart). min at.start first) (2 ^ 64 - 1) (take l.at-index l.costs);
  last : l.axis.last ≡ fold (λ last (at : CostAtStart). max at.start last) 0 (take l.at-index l.costs);
}
