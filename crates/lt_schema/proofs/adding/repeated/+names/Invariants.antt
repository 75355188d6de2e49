use Rattle.std.specs.Prelude.{◌≡◌, drop}
use Rattle.lt_tables.specs.Schema.{repeated_within}
use Rattle.lt_schema.specs.View.{view_fields}
use Rattle.lt_schema.proofs.adding.repeated.+names.Given as goal

abbrev pub invariant-repeated_within-loop-kind : goal.invariant-repeated_within-loop-kind
invariant-repeated_within-loop-kind l = repeated_within (view_fields (drop l.kind-index l.kind-items)) ≡ repeated_within (view_fields l.kind-items)
