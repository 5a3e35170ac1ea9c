use Rattle.std.proofs.Common.{◌≡◌, ◌≤◌, ◌-◌, false, take, length}
use Rattle.std.specs.Io.KnownBytes.{Appends}
use Rattle.byte_sinks.proofs.writing.write_all.Given as goal

abbrev pub invariant-loop-done : goal.invariant-loop-done
invariant-loop-done g l = record {
  within : l.done ≤ length l.bytes;
  written : Appends (g.K.Sink.contents l.fn.sink) (g.K.Sink.contents l.sink) (take l.done l.bytes);
  unfailed : g.K.Sink.has_failed l.sink ≡ false;
}

abbrev pub decreases-loop-done : goal.decreases-loop-done
decreases-loop-done g l = length l.bytes - l.done
