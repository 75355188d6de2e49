use Rattle.std.proofs.Common.{rules}
use Rattle.std.proofs.lemmas.List.Sorted.{IsPartitionPoint-from_clause}
use Rattle.lt_terms.specs.Key.{below}
use Rattle.lt_parts.proofs.Bounds.{counted, parted_below}
use Rattle.lt_parts.proofs.search.count_below.Goals as goal

pub returns-clause-exact : goal.returns-clause-exact
returns-clause-exact c =
    let es = c.args.entries.now in
    let bound = c.args.bound.now in
    counted (λ e. below e.low bound) es c.partition_point.result
    (IsPartitionPoint-from_clause (λ e. below e.low bound) es c.partition_point.result c.partition_point.ensures.partitioned (parted_below bound es c.requires) (λ a r g called. search rules))
