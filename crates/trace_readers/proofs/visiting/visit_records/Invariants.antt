use Rattle.std.proofs.Common.{◌-◌, ◌≡◌, ◌≤◌, ℕ, List, drop, length}
use Rattle.trace_readers.specs.Visits.{CanVisit, IsVisited}
use Rattle.trace_readers.proofs.visiting.visit_records.Given as goal

abbrev pub invariant-loop-taken : goal.invariant-loop-taken
invariant-loop-taken g l = record {
  header : l.taken.header ≡ l.fn.taken.header;
  can : CanVisit (g.V.WriteVisitor.takes l.visitor) l.taken.header;
  visited : (start : g.row.V.Denot) (text : List ℕ) → IsVisited (g.V.WriteVisitor.makes start l.fn.visitor) text
      l.fn.taken l.bytes → IsVisited (g.V.WriteVisitor.makes start l.visitor) text l.taken l.rest;
  within : length l.rest ≤ length l.bytes;
  rest_is : l.rest ≡ drop (length l.bytes - length l.rest) l.bytes;
}

abbrev pub decreases-loop-taken : goal.decreases-loop-taken
decreases-loop-taken g l = l.taken.header.shape.writes - l.taken.count
