use Rattle.std.proofs.Common.{drop}
use Rattle.link_clock.proofs.Reached.{IsWay}
use Rattle.link_clock.proofs.link.Link.when_sent.Given as goal

abbrev pub invariant-loop-change : goal.invariant-loop-change
invariant-loop-change l = IsWay l.self l.amount l.from l.rate l.sent
    (drop l.change-index l.self.changes)
