use Rattle.std.proofs.Common.{◌≡◌, ◌∙◌, sym, ap, arith}
use Rattle.link_clock.specs.Links.{ChangingLink, link_with, sent_before}
use Rattle.link_clock.proofs.Changes.{sound}
use Rattle.link_clock.proofs.Clocks.{clock_early}
use Rattle.link_clock.proofs.link.Link.clock.Goals as goal

pub returns-clause-low : goal.returns-clause-low
returns-clause-low c =
    let link = link_with c.self.inside.rate c.self.inside.changes.items in
    let value : c.sent_before.result ≡ sent_before link c.args.tick = c.sent_before.ensures.value
    ∙ ap (λ (l : ChangingLink). sent_before l c.args.tick) (sym c.self.view_is) in
    let low = rw (sym value) at (clock_early link (sound link c.self.invariant) c.args.tick) in
    omega (arith, low)
