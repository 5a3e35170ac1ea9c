use Rattle.std.proofs.Common.{◌-◌, ◌∙◌, List, ℕ, ap, get_or, arith}
use Rattle.open_traces.proofs.Searched.{places_of_rise, version_last, version_none}
use Rattle.open_traces.proofs.open_trace.OpenTrace.version_after.Goals as goal

pub count_to-few-requires : goal.count_to-few-requires
count_to-few-requires c = rw c.places-places.ensures (places_of_rise c.args.self.now c.args.page)

pub returns-then-few-eq0 : goal.returns-then-few-eq0
returns-then-few-eq0 c =
    version_none c.args.self.now c.args.page c.args.count c.count_to-few.result
    (rw c.places-places.ensures at c.count_to-few.ensures) c.if-few-eq0.true

pub returns : goal.returns
returns c =
    ap (λ (l : List ℕ). get_or l (c.count_to-few.result - 1) 0) c.places-places.ensures
    ∙ version_last c.args.self.now c.args.page c.args.count c.count_to-few.result
    (rw c.places-places.ensures at c.count_to-few.ensures) (omega (arith, c.if-few-eq0.false))
