use Rattle.std.specs.Prelude.{drop, ◌≡◌}
use Rattle.lt_schema.specs.Limits.{long_within}
use Rattle.lt_schema.specs.View.{view_fields}
use Rattle.lt_schema.proofs.adding.limits.+enums.Given as goal

abbrev pub invariant-long_within-loop-kind : goal.invariant-long_within-loop-kind
invariant-long_within-loop-kind l = long_within (view_fields (drop l.kind-index l.kind-items)) ≡ long_within (view_fields l.kind-items)
