use Rattle.std.proofs.Common.{rules, of_calls, ◌≡◌, ltb, ap, map}
use Rattle.std.specs.List.Sorted.{IsNonDecreasingBy}
use Rattle.std.proofs.lemmas.List.Sorted.{IsPartitionPoint-from_clause, IsPartitionedBy-ltb}
use Rattle.browser_planner.specs.Touches.{touch_in}
use Rattle.browser_planner.specs.declared.touches.LentTouch.{LentTouch}
use Rattle.browser_planner.proofs.Puts.{order_in, point_in}
use Rattle.browser_planner.proofs.touches.LentLogTimeline.before.Goals as goal

pub returns-clause-point : goal.returns-clause-point
returns-clause-point c =
    let items = c.self.inside.touches.now in
    let same : map touch_in items ≡ c.args.self.now.touches = ap (λ t. t.touches) c.self.view_is in
    let order : IsNonDecreasingBy (λ (t : LentTouch). t.tick) items = order_in items c.self.invariant.fits.in_order in
    let point = IsPartitionPoint-from_clause (λ (t : LentTouch). ltb t.tick c.args.tick) items c.partition_point.result
    c.partition_point.ensures.partitioned
    (IsPartitionedBy-ltb (λ t. t.tick) items c.args.tick order) (λ a r f k. search (rules, of_calls)) in
    rw same at (point_in items c.args.tick c.partition_point.result c.partition_point.ensures.bound point)
