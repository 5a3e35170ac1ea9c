use Rattle.std.proofs.Common.{◌-◌, ◌+◌, ◌≡◌, List, Option, ℕ, false}
use Rattle.trace_readers.specs.Visits.{CanVisit, IsVisiting}
use Rattle.trace_readers.proofs.visiting.visit_rest.Given as goal

abbrev pub invariant-loop-taken : goal.invariant-loop-taken
invariant-loop-taken g l = record {
  header : l.taken.header ≡ l.fn.taken.header;
  can : CanVisit (g.V.WriteVisitor.takes l.visitor) l.taken.header;
  visiting : (start : g.row.V.Denot) (old : Option (List ℕ))
      → IsVisiting (g.V.WriteVisitor.makes start l.fn.visitor) old (g.S.Source.remaining l.fn.source) l.fn.taken
      l.fn.pieces
      → IsVisiting (g.V.WriteVisitor.makes start l.visitor) old (g.S.Source.remaining l.source) l.taken l.pieces;
  unfailed : g.S.Source.has_failed l.source ≡ false;
}

abbrev pub decreases-loop-taken : goal.decreases-loop-taken
decreases-loop-taken g l = 268435456 + 1 - l.pieces.count
