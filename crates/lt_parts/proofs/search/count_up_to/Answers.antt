use Rattle.std.proofs.Common.{rules}
use Rattle.std.specs.Prelude.{not}
use Rattle.std.proofs.lemmas.List.Sorted.{IsPartitionPoint-from_clause}
use Rattle.lt_terms.specs.Key.{below}
use Rattle.lt_parts.proofs.Bounds.{counted, parted_up_to}
use Rattle.lt_parts.proofs.search.count_up_to.Goals as goal

pub returns-clause-exact : goal.returns-clause-exact
returns-clause-exact c =
    let es = c.args.entries.now in
    let key = c.args.key.now in
    counted (λ e. not (below key e.low)) es c.partition_point.result
    (IsPartitionPoint-from_clause (λ e. not (below key e.low)) es c.partition_point.result c.partition_point.ensures.partitioned (parted_up_to key es c.requires) (λ a r g called. search rules))
