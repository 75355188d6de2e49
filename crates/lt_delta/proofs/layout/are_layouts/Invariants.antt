use Rattle.std.proofs.Common.{◌≡◌, drop}
use Rattle.lt_delta.specs.Layouts.{have_order}
use Rattle.lt_delta.specs.View.{view_tables}
use Rattle.lt_delta.proofs.layout.are_layouts.Given as goal

abbrev pub invariant-loop-table : goal.invariant-loop-table
invariant-loop-table l = have_order (view_tables (drop l.table-index l.table-items)) ≡ have_order (view_tables l.table-items)
