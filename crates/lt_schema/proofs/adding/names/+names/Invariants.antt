use Rattle.std.specs.Prelude.{◌≡◌, drop}
use Rattle.lt_tables.specs.Schema.{bad_name_within}
use Rattle.lt_schema.specs.View.{view_fields}
use Rattle.lt_schema.proofs.adding.names.+names.Given as goal

abbrev pub invariant-bad_within-loop-kind : goal.invariant-bad_within-loop-kind
invariant-bad_within-loop-kind l = bad_name_within (view_fields (drop l.kind-index l.kind-items)) ≡ bad_name_within (view_fields l.kind-items)
