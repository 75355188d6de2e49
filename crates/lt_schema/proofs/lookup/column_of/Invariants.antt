use Rattle.std.specs.Prelude.{◌≡◌, drop}
use Rattle.lt_tables.specs.Schema.{column_numbered}
use Rattle.lt_schema.specs.View.{view_columns}
use Rattle.lt_schema.proofs.lookup.column_of.Given as goal

abbrev pub invariant-loop-column : goal.invariant-loop-column
invariant-loop-column l = column_numbered (view_columns (drop l.column-index l.columns)) l.number ≡ column_numbered (view_columns l.columns) l.number
