use Rattle.std.proofs.Common.{◌-◌, ◌≡◌, List, Option, ℕ, false, length, vec_len}
use Rattle.std.specs.Io.KnownBytes.{Consumes}
use Rattle.trace_readers.proofs.text_reading.read_on.Given as goal

abbrev pub invariant-loop-alloc : goal.invariant-loop-alloc
invariant-loop-alloc g l = record {
  room : vec_len l.room ≡ 262144;
  came : (old : Option (List ℕ)) → Consumes old (g.S.Source.remaining l.fn.source) l.fn.bytes.items
      → Consumes old (g.S.Source.remaining l.source) l.text;
  unfailed : g.S.Source.has_failed l.source ≡ false;
}

abbrev pub decreases-loop-alloc : goal.decreases-loop-alloc
decreases-loop-alloc g l = 268435457 - length l.text
