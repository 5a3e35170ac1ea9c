use Rattle.std.proofs.Common.{◌≡◌, false}
use Rattle.std.specs.Io.KnownBytes.{Keeps}
use Rattle.trace_codec.proofs.source.FromReadSource.read.Given as goal

abbrev pub invariant-loop : goal.invariant-loop
invariant-loop g l =
    record {
      kept : Keeps l.fn.self.remaining (g.R.Read.remaining l.self-inside.reader);
      unfailed : l.self-inside.has_failed ≡ false;
    }
