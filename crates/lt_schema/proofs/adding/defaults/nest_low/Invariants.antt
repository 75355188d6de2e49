use Rattle.std.specs.Prelude.{◌≡◌, drop}
use Rattle.lt_schema.specs.Defaults.{nest_low}
use Rattle.lt_schema.specs.View.{view_columns}
use Rattle.lt_schema.proofs.adding.defaults.nest_low.Given as goal

abbrev pub invariant-loop-column : goal.invariant-loop-column
invariant-loop-column l = nest_low (view_columns (drop l.column-index l.columns)) ≡ nest_low (view_columns l.columns)
