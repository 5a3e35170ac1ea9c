use Rattle.std.proofs.Common.{◌≡◌, drop}
use Rattle.link_clock.specs.Links.{misfit_from}
use Rattle.link_clock.proofs.link.Link.misfit.Given as goal

abbrev pub invariant-loop-number : goal.invariant-loop-number
invariant-loop-number l =
    misfit_from l.rate 0 0 l.changes ≡ misfit_from l.rate l.from l.number (drop l.number l.changes)
