use Rattle.std.proofs.Common.{rules, of_calls, leb}
use Rattle.std.proofs.lemmas.List.Sorted.{IsPartitionPoint-from_clause, IsPartitionedBy-leb}
use Rattle.open_traces.proofs.walks.count_to.Goals as goal

pub returns : goal.returns
returns c = (
  c.partition_point.ensures.bound,
  IsPartitionPoint-from_clause (λ v. leb v c.args.version) c.args.places.now c.partition_point.result
      c.partition_point.ensures.partitioned
      (IsPartitionedBy-leb (λ v. v) c.args.places.now c.args.version c.requires) (λ a r f k. search (rules, of_calls)),
)
