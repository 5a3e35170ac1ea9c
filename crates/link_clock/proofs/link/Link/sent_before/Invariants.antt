use Rattle.std.proofs.Common.{drop}
use Rattle.link_clock.proofs.Reached.{IsSum}
use Rattle.link_clock.proofs.link.Link.sent_before.Given as goal

abbrev pub invariant-loop-change : goal.invariant-loop-change
invariant-loop-change l = IsSum l.self l.tick l.from l.rate l.sent
    (drop l.change-index l.self.changes)
