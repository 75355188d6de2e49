use Rattle.std.specs.Prelude.{◌≡◌, drop}
use Rattle.lt_tables.specs.Schema.{number_fault_within}
use Rattle.lt_schema.specs.View.{view_fields}
use Rattle.lt_schema.proofs.adding.numbers.+numbers.Given as goal

abbrev pub invariant-bad_within-loop-kind : goal.invariant-bad_within-loop-kind
invariant-bad_within-loop-kind l = number_fault_within (view_fields (drop l.kind-index l.kind-items)) ≡ number_fault_within (view_fields l.kind-items)
