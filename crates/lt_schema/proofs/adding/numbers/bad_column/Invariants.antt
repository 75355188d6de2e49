use Rattle.std.specs.Prelude.{◌≡◌, drop}
use Rattle.lt_tables.specs.Schema.{column_number_fault}
use Rattle.lt_schema.specs.View.{view_columns}
use Rattle.lt_schema.proofs.adding.numbers.bad_column.Given as goal

abbrev pub invariant-loop-column : goal.invariant-loop-column
invariant-loop-column l = column_number_fault l.before (view_columns (drop l.column-index l.columns)) ≡ column_number_fault 0 (view_columns l.columns)
