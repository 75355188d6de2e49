use Rattle.std.specs.Prelude.{◌≡◌, drop, find, not}
use Rattle.lt_schema.specs.Defaults.{is_fallback}
use Rattle.lt_schema.specs.View.{view_columns}
use Rattle.lt_schema.proofs.adding.defaults.bad_default.Given as goal

abbrev pub invariant-loop-column : goal.invariant-loop-column
invariant-loop-column l = find (λ c. not (is_fallback c)) (view_columns (drop l.column-index l.column-items)) ≡ find (λ c. not (is_fallback c)) (view_columns l.column-items)
