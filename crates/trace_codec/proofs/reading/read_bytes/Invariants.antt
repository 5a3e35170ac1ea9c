use Rattle.std.proofs.Common.{◌-◌, ◌≡◌, ◌≤◌, false, take, vec_len}
use Rattle.std.specs.Io.KnownBytes.{Consumes}
use Rattle.trace_codec.proofs.reading.read_bytes.Given as goal

abbrev pub invariant-loop-filled : goal.invariant-loop-filled
invariant-loop-filled g l = record {
  within : l.filled ≤ vec_len l.bytes;
  bound : vec_len l.bytes ≤ 268435457;
  taken : Consumes (g.S.Source.remaining l.fn.source) (g.S.Source.remaining l.source) (take l.filled l.bytes.items);
  unfailed : g.S.Source.has_failed l.source ≡ false;
}

abbrev pub decreases-loop-filled : goal.decreases-loop-filled
decreases-loop-filled g l = 268435457 - l.filled
