use Rattle.std.proofs.Common.{◌++◌, ◌≡◌, drop}
use Rattle.lt_core.specs.View.{view_cells, view_layout}
use Rattle.lt_terms.specs.Layout.{with_cells}
use Rattle.lt_physical.specs.Placed.{of_column, view_placed}
use Rattle.lt_physical.proofs.values.placed_in.Given as goal

abbrev pub invariant-loop-leaf : goal.invariant-loop-leaf
invariant-loop-leaf l = view_placed l.placed.items ++ of_column l.column (with_cells (view_layout (drop l.leaf-index l.leaf-items)) (view_cells l.rest)) ≡ of_column l.column (with_cells (view_layout l.layout) (view_cells l.cells))
