use Rattle.std.proofs.Common.{List, sym, subst}
use Rattle.dirty_words.specs.Seats.{GuestView, CopyView}
use Rattle.dirty_words.specs.Closing.{AllGuests, AllCopiers}
use Rattle.dirty_words.proofs.Pairing.{AllGuests-first, AllCopiers-first}
use Rattle.memory_rows.proofs.rows.word.opened_and_closed.Goals as goal

pub close-requires-clause-guests : goal.close-requires-clause-guests
close-requires-clause-guests c =
    subst (λ (gs : List GuestView). AllGuests c.in-Ok.opened.table gs) (sym c.in-Ok.ensures.guests)
    (AllGuests-first c.in-Ok.opened.table)

pub close-requires-clause-copiers : goal.close-requires-clause-copiers
close-requires-clause-copiers c =
    subst (λ (cs : List CopyView). AllCopiers c.in-Ok.opened.table cs) (sym c.in-Ok.ensures.copiers)
    (AllCopiers-first c.in-Ok.opened.table)
