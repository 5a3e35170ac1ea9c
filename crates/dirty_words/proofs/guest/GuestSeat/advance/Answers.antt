use Rattle.std.proofs.Common.{arith}
use Rattle.dirty_words.proofs.Calls.{guest_call, advance_asks}
use Rattle.dirty_words.proofs.guest.GuestSeat.advance.Goals as goal

pub store-requires : goal.store-requires
store-requires c =
    let call = guest_call c.self.view_is c.self.invariant c.table.view_is c.table.invariant c.requires.table in
    advance_asks call c.args.page c.from.result _
    c.requires.own c.requires.free
    (let over = c.requires.over in omega arith) (omega arith) (grind (arith, c.len.ensures))
