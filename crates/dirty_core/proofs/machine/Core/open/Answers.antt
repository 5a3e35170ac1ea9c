use Rattle.std.proofs.Common.{◌∙◌, ap, replicate}
use Rattle.std.specs.Prelude.{Option, None, ℕ}
use Rattle.dirty_core.proofs.Moves.{Keeps-opened}
use Rattle.dirty_core.proofs.machine.Core.open.Goals as goal

pub returns-clause-opened : goal.returns-clause-opened
returns-clause-opened c =
    let none : Option ℕ = None in
    Keeps-opened c.args.opening.now _ _ _ _ _ _
    (c.in_ok-places.ensures.items ∙ c.places.ensures.places)
    (c.in_ok-dirty.ensures.items ∙ c.dirty.ensures.dirty)
    c.in_ok-held.ensures
    (c.in_ok-pending.ensures ∙ ap (λ n. replicate n none) c.guests.ensures.guests)
    c.copiers.ensures.copiers

pub returns-clause-sizes : goal.returns-clause-sizes
returns-clause-sizes c = ap (λ core. core.sizes) (returns-clause-opened c)
