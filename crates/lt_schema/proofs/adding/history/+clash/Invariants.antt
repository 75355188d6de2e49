use Rattle.std.specs.Prelude.{◌≡◌, drop}
use Rattle.lt_tables.specs.Schema.{clash_within}
use Rattle.lt_schema.specs.View.{view_fields}
use Rattle.lt_schema.proofs.adding.history.+clash.Given as goal

abbrev pub invariant-clash_within-loop-number : goal.invariant-clash_within-loop-number
invariant-clash_within-loop-number l = clash_within (view_fields l.olders) (view_fields (drop l.number-index l.number-items)) ≡ clash_within (view_fields l.olders) (view_fields l.number-items)
