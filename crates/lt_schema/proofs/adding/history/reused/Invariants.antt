use Rattle.std.specs.Prelude.{◌≡◌, drop, map}
use Rattle.lt_tables.specs.Schema.{reused_column}
use Rattle.lt_schema.specs.Tables.{view_registered}
use Rattle.lt_schema.specs.View.{view_columns}
use Rattle.lt_schema.proofs.adding.history.reused.Given as goal

abbrev pub invariant-loop-column : goal.invariant-loop-column
invariant-loop-column l = reused_column (map view_registered l.versions) (view_columns (drop l.column-index l.columns)) ≡ reused_column (map view_registered l.versions) (view_columns l.columns)
