use Rattle.std.specs.Prelude.{◌≡◌, drop, map}
use Rattle.lt_tables.specs.Schema.{default_again}
use Rattle.lt_schema.specs.Tables.{view_registered}
use Rattle.lt_schema.specs.View.{view_columns}
use Rattle.lt_schema.proofs.adding.history.given_again.Given as goal

abbrev pub invariant-loop-column : goal.invariant-loop-column
invariant-loop-column l = default_again (map view_registered l.versions) (view_columns (drop l.column-index l.columns)) ≡ default_again (map view_registered l.versions) (view_columns l.columns)
