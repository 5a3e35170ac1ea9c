use Rattle.std.proofs.Common.{rules, of_calls, ltb}
use Rattle.std.proofs.lemmas.List.Sorted.{IsPartitionPoint-from_clause, IsPartitionedBy-ltb}
use Rattle.page_versions.specs.Layout.{tick_at}
use Rattle.page_versions.proofs.searching.count_before.Goals as goal

pub returns-clause-point : goal.returns-clause-point
returns-clause-point c =
    IsPartitionPoint-from_clause (λ v. ltb (tick_at c.args.touches.now v) c.args.tick) c.args.places.now
    c.partition_point.result c.partition_point.ensures.partitioned
    (IsPartitionedBy-ltb (tick_at c.args.touches.now) c.args.places.now c.args.tick c.requires)
    (λ a r f k. search (rules, of_calls))
