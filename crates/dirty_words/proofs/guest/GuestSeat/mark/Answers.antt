use Rattle.dirty_words.proofs.Calls.{guest_call, mark_asks}
use Rattle.dirty_words.proofs.guest.GuestSeat.mark.Goals as goal

pub fetch_or-requires : goal.fetch_or-requires
fetch_or-requires c =
    let call = guest_call c.self.view_is c.self.invariant c.table.view_is c.table.invariant c.requires.table in
    mark_asks call c.in-Some.page c.in-Some.is
