use Rattle.std.proofs.Common.{take, ◌≡◌}
use Rattle.lt_tables.specs.Schema.{version_layout}
use Rattle.lt_core.specs.View.{view_layout}
use Rattle.lt_schema.specs.View.{view_columns}
use Rattle.lt_physical.proofs.layouts.version_layout.Given as goal

abbrev pub invariant-loop-column : goal.invariant-loop-column
invariant-loop-column l = view_layout l.layout ≡ version_layout (view_columns (take l.column-index l.column-items))
