use Rattle.std.proofs.Common.{◌∙◌, List, ℕ, ap, get_or, length, arith}
use Rattle.open_traces.proofs.Searched.{next_found, next_none, places_of_rise}
use Rattle.open_traces.proofs.open_trace.OpenTrace.behind.Goals as goal

pub count_to-few-requires : goal.count_to-few-requires
count_to-few-requires c = rw c.places-places.ensures (places_of_rise c.args.self.now c.args.page)

pub returns : goal.returns
returns c =
    ap (λ (l : List ℕ). get_or l c.count_to-few.result 0) c.places-places.ensures
    ∙ next_found c.args.self.now c.args.page c.args.version c.count_to-few.result
    (rw c.places-places.ensures at c.count_to-few.ensures)

pub returns-then-few-places : goal.returns-then-few-places
returns-then-few-places c =
    next_none c.args.self.now c.args.page c.args.version c.count_to-few.result
    (rw c.places-places.ensures at c.count_to-few.ensures)
    (omega (arith, c.if-few-places.true, ap length c.places-places.ensures))
