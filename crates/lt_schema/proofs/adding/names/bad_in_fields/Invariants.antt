use Rattle.std.specs.Prelude.{◌≡◌, drop}
use Rattle.lt_tables.specs.Schema.{bad_name_of, field_names}
use Rattle.lt_schema.specs.View.{view_fields}
use Rattle.lt_schema.proofs.adding.names.bad_in_fields.Given as goal

abbrev pub invariant-loop-name : goal.invariant-loop-name
invariant-loop-name l = bad_name_of (field_names (view_fields (drop l.name-index l.name-items))) ≡ bad_name_of (field_names (view_fields l.name-items))
