use Rattle.std.specs.Prelude.{drop, map, ◌≡◌}
use Rattle.lt_tables.specs.Schema.{same_numbers}
use Rattle.lt_core.specs.View.{view_settings}
use Rattle.lt_schema.specs.View.{view_columns}
use Rattle.lt_fair.proofs.shape.are_numbers_of.Given as goal

abbrev pub invariant-loop-number : goal.invariant-loop-number
invariant-loop-number l = same_numbers (map (λ s. s.0) (view_settings (drop l.number-index l.set))) (map (λ c. c.number) (view_columns l.left))
    ≡ same_numbers (map (λ s. s.0) (view_settings l.set)) (map (λ c. c.number) (view_columns l.columns))
