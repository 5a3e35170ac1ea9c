use Rattle.std.proofs.Common.{◌≡◌, ◌+◌, ◌-◌, ℕ, ◌∙◌, ap, get_or, length, take, arith}
use Rattle.std.proofs.lemmas.List.{length-drop}
use Rattle.page_versions.specs.Index.{places_of}
use Rattle.open_traces.proofs.Opened.{at_trace, has_part}
use Rattle.open_traces.proofs.open_trace.OpenTrace.places.Goals as goal

pub bounds-self-inside-page : goal.bounds-self-inside-page
bounds-self-inside-page c =
    let is = at_trace c.args.self.now _ _ _ _ _ _ c.self.view_is c.self.invariant in
    let part = has_part c.args.self.now c.args.page _ _ _ _ _ is c.requires in
    part.inside

pub split_at-requires : goal.split_at-requires
split_at-requires c =
    let is = at_trace c.args.self.now _ _ _ _ _ _ c.self.view_is c.self.invariant in
    let part = has_part c.args.self.now c.args.page _ _ _ _ _ is c.requires in
    omega (arith, part.few)

pub returns-then-next-self : goal.returns-then-next-self
returns-then-next-self c =
    let is = at_trace c.args.self.now _ _ _ _ _ _ c.self.view_is c.self.invariant in
    let part = has_part c.args.self.now c.args.page _ _ _ _ _ is c.requires in
    c.split_at.ensures.back ∙ part.last c.if-next-self.true

pub bounds-self-inside-next : goal.bounds-self-inside-next
bounds-self-inside-next c =
    let is = at_trace c.args.self.now _ _ _ _ _ _ c.self.view_is c.self.invariant in
    let part = has_part c.args.self.now c.args.page _ _ _ _ _ is c.requires in
    omega (arith, part.inside, c.if-next-self.false)

pub overflow_sub-self-inside : goal.overflow_sub-self-inside
overflow_sub-self-inside c =
    let is = at_trace c.args.self.now _ _ _ _ _ _ c.self.view_is c.self.invariant in
    let part = has_part c.args.self.now c.args.page _ _ _ _ _ is c.requires in
    let next = part.next (omega (arith, part.inside, c.if-next-self.false)) in
    omega (arith, next)

pub split_at-requires-2 : goal.split_at-requires-2
split_at-requires-2 c =
    let is = at_trace c.args.self.now _ _ _ _ _ _ c.self.view_is c.self.invariant in
    let part = has_part c.args.self.now c.args.page _ _ _ _ _ is c.requires in
    let next = part.next (omega (arith, part.inside, c.if-next-self.false)) in
    let start : ℕ = get_or c.self.inside.starts.now c.args.page 0 in
    omega (arith, next, part.few, ap length c.split_at.ensures.back, length-drop start c.self.inside.places.now)

pub returns : goal.returns
returns c =
    let is = at_trace c.args.self.now _ _ _ _ _ _ c.self.view_is c.self.invariant in
    let part = has_part c.args.self.now c.args.page _ _ _ _ _ is c.requires in
    let next = part.next (omega (arith, part.inside, c.if-next-self.false)) in
    let start : ℕ = get_or c.self.inside.starts.now c.args.page 0 in
    let size : get_or c.self.inside.starts.now (c.args.page + 1) 0 - start
    ≡ length (places_of c.args.self.now c.args.page) = omega (arith, next) in
    c.split_at-2.ensures.front ∙ (λ i. take (size i) (c.split_at.ensures.back i)) ∙ part.own
