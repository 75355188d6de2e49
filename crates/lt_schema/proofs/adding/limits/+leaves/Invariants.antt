use Rattle.std.specs.Prelude.{drop, ◌+◌, ◌≡◌}
use Rattle.lt_schema.specs.Limits.{leaf_totals}
use Rattle.lt_schema.specs.View.{view_fields}
use Rattle.lt_schema.proofs.adding.limits.+leaves.Given as goal

abbrev pub invariant-with_field_leaves-loop-kind : goal.invariant-with_field_leaves-loop-kind
invariant-with_field_leaves-loop-kind l = l.all + leaf_totals (view_fields (drop l.kind-index l.kind-items)) ≡ l.count + leaf_totals (view_fields l.kind-items)
