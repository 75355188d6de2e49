use Rattle.std.specs.Prelude.{drop, ◌≡◌}
use Rattle.lt_tables.specs.Schema.{shapes_of}
use Rattle.lt_core.specs.View.{view_settings}
use Rattle.lt_schema.specs.View.{view_columns}
use Rattle.lt_fair.proofs.shape.all_fit.Given as goal

abbrev pub invariant-loop-setting : goal.invariant-loop-setting
invariant-loop-setting l = shapes_of (view_columns l.columns) (view_settings (drop l.setting-index l.set)) ≡ shapes_of (view_columns l.columns) (view_settings l.set)
