use Rattle.std.proofs.Common.{◌≡◌, length, take}
use Rattle.migration_model.specs.Rounds.{PlannedRound}
use Rattle.report_pictures.specs.Columns.{most_of}
use Rattle.report_pictures.proofs.screen.greatest_of_rounds.Given as goal

abbrev pub invariant-loop-round : goal.invariant-loop-round
invariant-loop-round l = record {
  from : l.from ≡ most_of (λ (round : PlannedRound). round.from) (take l.round-index l.rounds);
  to : l.to ≡ most_of (λ (round : PlannedRound). round.to) (take l.round-index l.rounds);
  rate : l.rate ≡ most_of (λ (round : PlannedRound). round.rate) (take l.round-index l.rounds);
  pages : l.pages ≡ most_of (λ (round : PlannedRound). length round.pages) (take l.round-index l.rounds);
  sent : l.sent ≡ most_of (λ (round : PlannedRound). length round.sent) (take l.round-index l.rounds);
  dirtied : l.dirtied ≡ most_of (λ (round : PlannedRound). round.dirtied) (take l.round-index l.rounds);
}
