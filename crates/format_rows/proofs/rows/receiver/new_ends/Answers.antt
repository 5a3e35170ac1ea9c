use Rattle.std.proofs.Common.{◌≡◌, Result, Ok, IfOk, subst}
use Rattle.stream_lanes.specs.Grids.{IsGrid, AreColumns}
use Rattle.stream_receivers.proofs.Ends.{new_ends}
use Rattle.format_rows.proofs.rows.receiver.new_ends.Goals as goal

-- what holds of a result's value, if it has one, holds of the value
inside : {T E : Type 0} (result : Result T E) (value : T) (P : T → Type 0) → IfOk result P → result ≡ Ok value
    → P value
inside {T} {E} result value P holds there = subst (λ (r : Result T E). IfOk r P) there holds

pub returns : goal.returns
returns g c =
    let grid : IsGrid 2 1 4 c.expect-outs.result.outs.items c.expect-outs.result.ins.items =
    inside c.lanes.result c.expect-outs.result (λ lanes. IsGrid 2 1 4 lanes.outs.items lanes.ins.items) c.lanes.ensures
    c.expect-outs.ensures in
    let turned : AreColumns 1 c.expect-outs.result.outs.items c.expect-columns.result.items =
    inside c.by_stream.result c.expect-columns.result
    (λ columns. AreColumns 1 c.expect-outs.result.outs.items columns.items) c.by_stream.ensures
    c.expect-columns.ensures in
    new_ends 2 1 4 c.expect-outs.result.outs.items c.expect-columns.result.items c.expect-outs.result.ins.items 0
    c.in-Some-Some.column c.in-Some-Some.row grid turned c.in-Some-Some.ensures c.in-Some-Some.ensures'
