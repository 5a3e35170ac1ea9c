use Rattle.std.proofs.Common.{rules, of_calls, ◌≡◌, ◌≤◌, ◌∙◌, ltb, length, ap}
use Rattle.std.specs.List.Sorted.{IsNonDecreasingBy}
use Rattle.std.proofs.lemmas.List.Sorted.{IsPartitionPoint-from_clause, IsPartitionedBy-ltb}
use Rattle.migration_model.specs.Trace.{IsTrace, GuestWrite}
use Rattle.migration_model.proofs.Touches.{point_of_touches}
use Rattle.trace_codec.proofs.timeline.TraceTimeline.before.Goals as goal

pub returns-clause-point : goal.returns-clause-point
returns-clause-point c =
    let items = c.as_slice.result.now in
    let trace = c.args.self.now in
    let same : items ≡ trace.writes = c.as_slice.ensures.value ∙ ap (λ t. t.writes) c.self.view_is in
    let is : IsTrace trace = rw c.self.view_is at c.self.invariant in
    let order : IsNonDecreasingBy (λ (w : GuestWrite). w.tick) items = rw same is.writes.in_order in
    let point = IsPartitionPoint-from_clause (λ (w : GuestWrite). ltb w.tick c.args.tick) items c.partition_point.result
    c.partition_point.ensures.partitioned
    (IsPartitionedBy-ltb (λ w. w.tick) items c.args.tick order) (λ a r f k. search (rules, of_calls)) in
    let few : c.partition_point.result ≤ length items = c.partition_point.ensures.bound in
    point_of_touches trace.writes c.args.tick c.partition_point.result (rw same at few) (rw same at point)
