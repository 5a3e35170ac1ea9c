use Rattle.std.proofs.Common.{arith}
use Rattle.byte_sinks.proofs.Sinks.{Appends-more}
use Rattle.byte_sinks.proofs.writing.write_all.Goals as goal

pub loop-done-preserved : goal.loop-done-preserved
loop-done-preserved g c =
    let before = c.loop-done.invariant in
    let wrote = c.in-Some.ensures.written in
    record {
      within = omega (arith, wrote.0, c.split_at.ensures.back_len);
      written = Appends-more _ _ _ c.args.bytes.now c.loop-done.done c.in-Some.count before.written
          (rw c.split_at.ensures.back at wrote.2);
      unfailed = c.in-Some.ensures.failed;
    }
