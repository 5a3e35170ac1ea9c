use Rattle.std.proofs.Common.{arith, length-drop}
use Rattle.trace_codec.proofs.Sources.{Consumes-front}
use Rattle.trace_codec.proofs.reading.read_bytes.Goals as goal

pub loop-filled-preserved : goal.loop-filled-preserved
loop-filled-preserved g c =
    let before = c.loop-filled.invariant in
    let read = c.in-Some.ensures in
    record {
      within = omega (
        arith,
        read.bytes.0,
        length-drop c.loop-filled.filled c.read_behind.new.bytes.items,
        c.in_ok-bytes.ensures.room,
        read.len,
      );
      bound = omega (arith, read.len, c.in_ok-bytes.ensures.bound);
      taken = Consumes-front _ _ _ c.loop-filled.filled c.in-Some.count c.loop-filled.bytes.items
          c.in_ok-bytes.bytes.items c.read_behind.new.bytes.items
          before.taken c.in_ok-bytes.ensures.kept read.kept read.bytes.1;
      unfailed = read.failed;
    }
