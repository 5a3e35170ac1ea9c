use Rattle.stream_lanes.specs.Ends.{SameOut}
use Rattle.format_rows.proofs.rows.lane.send_numbers.Given as goal

abbrev pub invariant-loop : goal.invariant-loop
invariant-loop l = SameOut l.fn.out l.out
