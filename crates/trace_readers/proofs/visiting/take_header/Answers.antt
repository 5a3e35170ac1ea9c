use Rattle.trace_readers.proofs.Longer.{short_header}
use Rattle.trace_codec.proofs.Sources.{ended_refused}
use Rattle.trace_readers.proofs.visiting.take_header.Goals as goal

pub returns-then-branch-clause-refused : goal.returns-then-branch-clause-refused
returns-then-branch-clause-refused g c =
    let front = c.in_ok-fill_front.ensures in
    let ended = c.if-branch.true in
    ended_refused _ _ _ _ front.untaken.came.came (front.end ended) (short_header _ (front.few ended))
