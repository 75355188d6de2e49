use Rattle.std.specs.Prelude.{◌≡◌, drop}
use Rattle.lt_schema.specs.Names.{bad_column_name}
use Rattle.lt_schema.specs.View.{view_columns}
use Rattle.lt_schema.proofs.adding.names.bad_in_columns.Given as goal

abbrev pub invariant-loop-column : goal.invariant-loop-column
invariant-loop-column l = bad_column_name (view_columns (drop l.column-index l.columns)) ≡ bad_column_name (view_columns l.columns)
