use Rattle.std.proofs.Common.{◌≡◌, replicate}
use Rattle.round_planner.proofs.KnownRounds.{no_round}
use Rattle.round_planner.proofs.known.no_rounds.Given as goal

abbrev pub invariant-loop : goal.invariant-loop
invariant-loop l = l.known.items ≡ replicate l.counter no_round
