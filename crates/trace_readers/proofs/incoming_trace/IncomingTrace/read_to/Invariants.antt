use Rattle.std.proofs.Common.{◌-◌, ◌+◌, ◌≡◌, List, Option, ℕ, false, length}
use Rattle.std.specs.Io.KnownBytes.{Consumes}
use Rattle.migration_model.specs.Numbers.{IsBytes}
use Rattle.trace_readers.proofs.incoming_trace.IncomingTrace.read_to.Given as goal

abbrev pub invariant-loop-self : goal.invariant-loop-self
invariant-loop-self g l = record {
  came : (old : Option (List ℕ)) → Consumes old (g.S.Source.remaining l.fn.source) l.fn.self
      → Consumes old (g.S.Source.remaining l.source) l.self-inside.pieces.rest;
  whole : (l.self-inside.pieces.count ≡ length l.self-inside.pieces.rest) × IsBytes l.self-inside.pieces.rest;
  unfailed : g.S.Source.has_failed l.source ≡ false;
}

abbrev pub decreases-loop-self : goal.decreases-loop-self
decreases-loop-self g l = 268435456 + 1 - l.self-inside.pieces.count
