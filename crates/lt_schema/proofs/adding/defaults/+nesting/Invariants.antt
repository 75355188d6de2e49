use Rattle.std.specs.Prelude.{◌≡◌, drop, nat_le}
use Rattle.lt_terms.specs.Kind.{nestings}
use Rattle.lt_schema.specs.View.{view_fields}
use Rattle.lt_schema.proofs.adding.defaults.+nesting.Given as goal

abbrev pub invariant-nest_within-loop-kind : goal.invariant-nest_within-loop-kind
invariant-nest_within-loop-kind l = nat_le (nestings (view_fields (drop l.kind-index l.kind-items))) l.depth ≡ nat_le (nestings (view_fields l.kind-items)) l.depth
