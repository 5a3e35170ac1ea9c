use Rattle.std.proofs.Common.{rules, of_calls, ◌≡◌, ◌∙◌, ltb, ap}
use Rattle.std.specs.List.Sorted.{IsNonDecreasingBy}
use Rattle.std.proofs.lemmas.List.Sorted.{IsPartitionPoint-from_clause, IsPartitionedBy-ltb}
use Rattle.migration_model.specs.Touches.{GuestTouch}
use Rattle.trace_readers.proofs.touch_log.TouchLogTimeline.before.Goals as goal

pub returns-clause-point : goal.returns-clause-point
returns-clause-point c =
    let items = c.as_slice.result.now in
    let inside : items ≡ c.self.inside.touches.items = c.as_slice.ensures.value in
    let same : items ≡ c.args.self.now.touches = inside ∙ ap (λ t. t.touches) c.self.view_is in
    let order : IsNonDecreasingBy (λ (t : GuestTouch). t.tick) items = rw inside c.self.invariant.1.in_order in
    let point = IsPartitionPoint-from_clause (λ (t : GuestTouch). ltb t.tick c.args.tick) items c.partition_point.result
    c.partition_point.ensures.partitioned
    (IsPartitionedBy-ltb (λ t. t.tick) items c.args.tick order) (λ a r f k. search (rules, of_calls)) in
    rw same at point
