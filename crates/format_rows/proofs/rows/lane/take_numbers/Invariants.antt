use Rattle.stream_lanes.specs.Ends.{SameIn}
use Rattle.format_rows.proofs.rows.lane.take_numbers.Given as goal

abbrev pub invariant-loop : goal.invariant-loop
invariant-loop l = SameIn l.fn.end l.end
