use Rattle.std.specs.Prelude.{drop, ◌≡◌}
use Rattle.lt_tables.specs.Schema.{same_key_columns}
use Rattle.lt_schema.specs.View.{view_key}
use Rattle.lt_schema.proofs.tables.are_same.Given as goal

abbrev pub invariant-loop-column : goal.invariant-loop-column
invariant-loop-column l = same_key_columns (view_key (drop l.column-index l.one)) (view_key l.left) ≡ same_key_columns (view_key l.one) (view_key l.other)
