use Rattle.std.proofs.Common.{◌≡◌, ◌∙◌, List, ap, subst}
use Rattle.link_clock.specs.Links.{ChangingLink, link_with}
use Rattle.link_clock.specs.declared.link.LinkChange.{LinkChange}
use Rattle.link_clock.proofs.Changes.{IsSound, sound}
use Rattle.link_clock.proofs.Reached.{reached_here, reached_last, way_begins, way_next}
use Rattle.link_clock.proofs.link.Link.when_sent.Goals as goal

pub loop-change-init : goal.loop-change-init
loop-change-init c =
    let link = link_with c.self.inside.rate c.self.inside.changes.items in
    let is = subst (λ (l : ChangingLink). IsSound l) c.self.view_is (sound link c.self.invariant) in
    let rate = ap (λ (l : ChangingLink). l.rate) c.self.view_is in
    rw rate (way_begins c.args.self.now c.args.amount is)

pub returns-then-amount-sent : goal.returns-then-amount-sent
returns-then-amount-sent c =
    let at = c.loop-change in
    let items = c.deref-change-items.ensures.value ∙ ap (λ (l : ChangingLink). l.changes) c.self.view_is in
    let low = rw items at c.loop-change-test.true in
    let few = rw items at c.if-amount-sent.true in
    reached_here c.args.self.now c.args.amount at.from at.rate at.sent at.change-index c.div_ceil.result
    (record { tick = 0; rate = 0 }) low at.invariant few c.div_ceil.ensures

pub loop-change-preserved : goal.loop-change-preserved
loop-change-preserved c =
    let at = c.loop-change in
    let items = c.deref-change-items.ensures.value ∙ ap (λ (l : ChangingLink). l.changes) c.self.view_is in
    let low = rw items at c.loop-change-test.true in
    let more = rw items at c.if-amount-sent.false in
    rw items (way_next c.args.self.now c.args.amount at.from at.rate at.sent at.change-index
    (record { tick = 0; rate = 0 }) low at.invariant more)

pub returns : goal.returns
returns c =
    let at = c.loop-change in
    let items = c.deref-change-items.ensures.value ∙ ap (λ (l : ChangingLink). l.changes) c.self.view_is in
    let high = rw items at c.loop-change-test.false in
    reached_last c.args.self.now c.args.amount at.from at.rate at.sent at.change-index c.div_ceil-2.result high
    at.invariant c.div_ceil-2.ensures
