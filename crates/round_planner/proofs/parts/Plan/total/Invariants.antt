use Rattle.std.proofs.Common.{◌≡◌, ◌+◌, ◌*◌, ◌≤◌, length, take}
use Rattle.std.specs.List.{sum_by}
use Rattle.migration_model.specs.Rounds.{PlannedRound}
use Rattle.round_planner.proofs.parts.Plan.total.Given as goal

abbrev pub invariant-loop-round : goal.invariant-loop-round
invariant-loop-round l = record {
  sum : l.total ≡ length l.self.last + sum_by (λ (round : PlannedRound). length round.sent)
      (take l.round-index l.round-items);
  small : l.total ≤ 65_536 + l.round-index * 65_536;
}
