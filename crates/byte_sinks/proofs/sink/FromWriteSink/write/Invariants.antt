use Rattle.std.proofs.Common.{◌≡◌, false}
use Rattle.std.specs.Io.KnownBytes.{Keeps}
use Rattle.byte_sinks.proofs.sink.FromWriteSink.write.Given as goal

abbrev pub invariant-loop : goal.invariant-loop
invariant-loop g l =
    record {
      kept : Keeps l.fn.self.contents (g.W.Write.contents l.self-inside.writer);
      unfailed : l.self-inside.has_failed ≡ false;
    }
