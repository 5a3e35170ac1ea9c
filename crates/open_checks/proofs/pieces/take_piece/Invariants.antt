use Rattle.std.proofs.Common.{◌≡◌, ◌≤◌, ◌+◌, length}
use Rattle.stream_check.specs.Checked.{TakesRight}
use Rattle.open_checks.specs.Kept.{IsKept, known_by}
use Rattle.open_checks.proofs.pieces.take_piece.Given as goal

abbrev pub invariant-loop-rest : goal.invariant-loop-rest
invariant-loop-rest l = record {
  takes : TakesRight l.trace (known_by l.trace l.stop l.fn.last l.fn.greatest)
      (known_by l.trace l.stop l.last l.greatest) l.piece l.number l.rest;
  words : length l.last ≡ l.trace.pages;
  kept : IsKept l.trace l.greatest l.memory;
  bound : l.number + length l.rest ≤ length l.piece;
}

abbrev pub decreases-loop-rest : goal.decreases-loop-rest
decreases-loop-rest l = length l.rest
