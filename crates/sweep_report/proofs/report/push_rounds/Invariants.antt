use Rattle.std.proofs.Common.{◌≡◌, ◌++◌, ℕ, take}
use Rattle.std.specs.List.{flat_map, enumerate_from}
use Rattle.migration_model.specs.Rounds.{PlannedRound}
use Rattle.sweep_report.specs.Lines.{round_line}
use Rattle.sweep_report.proofs.report.push_rounds.Given as goal

abbrev pub invariant-loop-number : goal.invariant-loop-number
invariant-loop-number l = l.text.items ≡ l.fn.text.items ++ flat_map (λ (at : ℕ × PlannedRound). round_line at.0 at.1)
    (take l.number (enumerate_from 0 l.rounds))
