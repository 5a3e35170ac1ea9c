use Rattle.stream_check.proofs.Pieces.{stops_behind, stops_early, taken_in_two}
use Rattle.stream_check.proofs.laws.pieces_are_as_the_whole.Goals as goal

pub returns-clause-taken : goal.returns-clause-taken
returns-clause-taken c = taken_in_two

pub returns-clause-behind : goal.returns-clause-behind
returns-clause-behind c = stops_behind

pub returns-clause-early : goal.returns-clause-early
returns-clause-early c = stops_early
