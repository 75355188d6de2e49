use Rattle.std.specs.Prelude.{drop, ◌≡◌}
use Rattle.lt_schema.specs.Limits.{with_numbers}
use Rattle.lt_schema.specs.View.{view_columns}
use Rattle.lt_physical.proofs.layouts.add_numbers.Given as goal

abbrev pub invariant-loop-column : goal.invariant-loop-column
invariant-loop-column l = with_numbers l.numbers.keys (view_columns (drop l.column-index l.columns)) ≡ with_numbers l.fn.numbers.keys (view_columns l.columns)
