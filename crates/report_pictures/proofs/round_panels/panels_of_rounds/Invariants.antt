use Rattle.std.proofs.Common.{◌≡◌, take}
use Rattle.std.specs.List.{fold}
use Rattle.std.specs.Prelude.{max}
use Rattle.migration_model.specs.Rounds.{PlannedRound}
use Rattle.report_pictures.specs.ReportCharts.{round_most}
use Rattle.report_pictures.proofs.round_panels.panels_of_rounds.Given as goal

abbrev pub invariant-loop-round : goal.invariant-loop-round
invariant-loop-round l = record {
  pages : l.pages ≡ fold round_most 1 (take l.round-index l.rounds);
  rate : l.rate ≡ fold (λ most (round : PlannedRound). max round.rate most) 1 (take l.round-index l.rounds);
}
