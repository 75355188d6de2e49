use Rattle.std.specs.Prelude.{drop, length, ◌≡◌, ◌≤◌}
use Rattle.lt_tables.specs.Schema.{joined_fields}
use Rattle.lt_schema.specs.Carriers.{falling_fields}
use Rattle.lt_schema.specs.View.{view_fields}
use Rattle.lt_schema.proofs.carrier.+join.Given as goal

abbrev pub invariant-join_fields-loop-left : goal.invariant-join_fields-loop-left
invariant-join_fields-loop-left l = record {
  within : l.left ≤ length l.fields;
  joined : falling_fields l.falling.items ≡ joined_fields (view_fields l.olders) (view_fields (drop l.left l.fields));
}

abbrev pub decreases-join_fields-loop-left : goal.decreases-join_fields-loop-left
decreases-join_fields-loop-left l = l.left
