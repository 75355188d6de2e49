use Rattle.std.specs.Prelude.{drop, ◌≡◌}
use Rattle.lt_schema.specs.Limits.{long_of}
use Rattle.lt_schema.specs.View.{view_columns}
use Rattle.lt_schema.proofs.adding.limits.long_enum.Given as goal

abbrev pub invariant-loop-column : goal.invariant-loop-column
invariant-loop-column l = long_of (view_columns (drop l.column-index l.columns)) ≡ long_of (view_columns l.columns)
