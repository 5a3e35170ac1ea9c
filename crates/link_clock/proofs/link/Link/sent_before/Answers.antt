use Rattle.std.proofs.Common.{◌≡◌, ◌∙◌, ◌-◌, min, List, get_or, ap, subst, arith}
use Rattle.link_clock.specs.Links.{ChangingLink, link_with}
use Rattle.link_clock.specs.declared.link.LinkChange.{LinkChange}
use Rattle.link_clock.proofs.Changes.{IsSound, sound}
use Rattle.link_clock.proofs.Reached.{all_fits, sum_begins, sum_ends, sum_here}
use Rattle.link_clock.proofs.link.Link.sent_before.Goals as goal

pub loop-change-init : goal.loop-change-init
loop-change-init c =
    let link = link_with c.self.inside.rate c.self.inside.changes.items in
    let is = subst (λ (l : ChangingLink). IsSound l) c.self.view_is (sound link c.self.invariant) in
    let rate = ap (λ (l : ChangingLink). l.rate) c.self.view_is in
    rw rate (sum_begins c.args.self.now c.args.tick is)

pub overflow_add-sent : goal.overflow_add-sent
overflow_add-sent c =
    let at = c.loop-change in
    let link = link_with c.self.inside.rate c.self.inside.changes.items in
    let is = subst (λ (l : ChangingLink). IsSound l) c.self.view_is (sound link c.self.invariant) in
    let items = c.deref-change-items.ensures.value ∙ ap (λ (l : ChangingLink). l.changes) c.self.view_is in
    let low = rw items at c.loop-change-test.true in
    let d : LinkChange = record { tick = 0; rate = 0 } in
    let until = c.min.ensures
    ∙ ap (λ (l : List LinkChange). min c.args.tick (get_or l at.change-index d).tick) items in
    let ticks = c.saturating_sub.ensures ∙ ap (λ n. n - at.from) until in
    rw ticks (omega (
      arith,
      sum_here c.args.self.now c.args.tick at.from at.rate at.sent at.change-index d low
          at.invariant,
      all_fits c.args.self.now c.args.tick is c.requires,
    ))

pub overflow_add-result : goal.overflow_add-result
overflow_add-result c =
    let at = c.loop-change in
    let link = link_with c.self.inside.rate c.self.inside.changes.items in
    let is = subst (λ (l : ChangingLink). IsSound l) c.self.view_is (sound link c.self.invariant) in
    let items = c.deref-change-items.ensures.value ∙ ap (λ (l : ChangingLink). l.changes) c.self.view_is in
    let high = rw items at c.loop-change-test.false in
    rw c.saturating_sub-2.ensures (omega (
      arith,
      sum_ends c.args.self.now c.args.tick at.from at.rate at.sent
          at.change-index high at.invariant,
      all_fits c.args.self.now c.args.tick is c.requires,
    ))

pub returns-clause-bound : goal.returns-clause-bound
returns-clause-bound c =
    let at = c.loop-change in
    let link = link_with c.self.inside.rate c.self.inside.changes.items in
    let is = subst (λ (l : ChangingLink). IsSound l) c.self.view_is (sound link c.self.invariant) in
    let items = c.deref-change-items.ensures.value ∙ ap (λ (l : ChangingLink). l.changes) c.self.view_is in
    let high = rw items at c.loop-change-test.false in
    rw c.saturating_sub-2.ensures (omega (
      arith,
      sum_ends c.args.self.now c.args.tick at.from at.rate at.sent
          at.change-index high at.invariant,
      all_fits c.args.self.now c.args.tick is c.requires,
    ))
