use Rattle.std.proofs.Common.{◌∷◌, [], sym, arith}
use Rattle.migration_model.specs.Trace.{GuestWrite}
use Rattle.guest_log.specs.Writes.{no_write, shown}
use Rattle.page_versions.specs.Pages.{PutsWithin}
use Rattle.page_versions.proofs.Pages.{taken_has}
use Rattle.page_versions.proofs.bytes.UpToFour.put_over.Goals as goal

pub put_one-requires-clause-within : goal.put_one-requires-clause-within
put_one-requires-clause-within c =
    let all = shown c.self.inside.first ∷ shown c.self.inside.second ∷ shown c.self.inside.third
    ∷ shown c.self.inside.fourth ∷ [] in
    let Fits : GuestWrite → Type 0 = PutsWithin c.args.shape.shift in
    taken_has Fits c.self.inside.count 0 all no_write (rw (sym c.self.view_is) at c.requires.within)
    (omega (arith, c.self.invariant)) (omega arith)

pub put_one-requires-2-clause-within : goal.put_one-requires-2-clause-within
put_one-requires-2-clause-within c =
    let all = shown c.self.inside.first ∷ shown c.self.inside.second ∷ shown c.self.inside.third
    ∷ shown c.self.inside.fourth ∷ [] in
    let Fits : GuestWrite → Type 0 = PutsWithin c.args.shape.shift in
    taken_has Fits c.self.inside.count 1 all no_write (rw (sym c.self.view_is) at c.requires.within)
    (omega (arith, c.self.invariant, c.if-self-eq1.false)) (omega arith)

pub put_one-requires-3-clause-within : goal.put_one-requires-3-clause-within
put_one-requires-3-clause-within c =
    let all = shown c.self.inside.first ∷ shown c.self.inside.second ∷ shown c.self.inside.third
    ∷ shown c.self.inside.fourth ∷ [] in
    let Fits : GuestWrite → Type 0 = PutsWithin c.args.shape.shift in
    taken_has Fits c.self.inside.count 2 all no_write (rw (sym c.self.view_is) at c.requires.within)
    (omega (arith, c.self.invariant, c.if-self-eq1.false, c.if-self-eq2.false)) (omega arith)

pub put_one-requires-4-clause-within : goal.put_one-requires-4-clause-within
put_one-requires-4-clause-within c =
    let all = shown c.self.inside.first ∷ shown c.self.inside.second ∷ shown c.self.inside.third
    ∷ shown c.self.inside.fourth ∷ [] in
    let Fits : GuestWrite → Type 0 = PutsWithin c.args.shape.shift in
    taken_has Fits c.self.inside.count 3 all no_write (rw (sym c.self.view_is) at c.requires.within)
    (omega (arith, c.self.invariant, c.if-self-eq1.false, c.if-self-eq2.false, c.if-self-eq3.false)) (omega arith)
