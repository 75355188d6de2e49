use Rattle.std.specs.Prelude.{◌≡◌, drop, is_some}
use Rattle.lt_tables.specs.Schema.{column_numbered}
use Rattle.lt_schema.specs.View.{view_columns}
use Rattle.lt_store.proofs.covering.declares.Given as goal

abbrev pub invariant-loop-column : goal.invariant-loop-column
invariant-loop-column l = is_some (column_numbered (view_columns (drop l.column-index l.columns)) l.number) ≡ is_some (column_numbered (view_columns l.columns) l.number)
