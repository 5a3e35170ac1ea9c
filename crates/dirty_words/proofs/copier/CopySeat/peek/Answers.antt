use Rattle.std.proofs.Common.{ap}
use Rattle.dirty_words.specs.Plays.{copier_in}
use Rattle.dirty_words.proofs.Calls.{copy_call, peek_asks, peeked}
use Rattle.dirty_words.proofs.copier.CopySeat.peek.Goals as goal

pub load-requires : goal.load-requires
load-requires c =
    let call = copy_call c.self.view_is c.self.invariant c.table.view_is c.table.invariant c.requires.table in
    peek_asks call c.args.word c.requires.own

pub returns-clause-fresh : goal.returns-clause-fresh
returns-clause-fresh c =
    let call = copy_call c.self.view_is c.self.invariant c.table.view_is c.table.invariant c.requires.table in
    peeked call (copier_in c.load.new.seat.me.0) c.args.word c.load.result c.requires.own
    (ap (λ m. copier_in m.0) c.load.ensures.2.0)
