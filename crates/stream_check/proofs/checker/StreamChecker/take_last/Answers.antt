use Rattle.stream_check.proofs.Fronts.{cut_wrong}
use Rattle.stream_check.proofs.checker.StreamChecker.take_last.Goals as goal

pub returns-then-taken-bytes-clause-wrong : goal.returns-then-taken-bytes-clause-wrong
returns-then-taken-bytes-clause-wrong g c =
    cut_wrong (g.W.WriteLog.trace c.args.trace.now) c.args.self.now c.take.new.self c.args.bytes.now c.in_ok-taken.taken
    c.cut_off.result c.in_ok-taken.ensures.taken c.if-taken-bytes.true c.cut_off.ensures.number
    c.cut_off.ensures.offset c.cut_off.ensures.fault
