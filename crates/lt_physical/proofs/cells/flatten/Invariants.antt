use Rattle.std.proofs.Common.{◌≡◌, take}
use Rattle.lt_terms.specs.Layout.{flatten}
use Rattle.lt_core.specs.View.{view_cells, view_layout, view_settings}
use Rattle.lt_physical.proofs.cells.flatten.Given as goal

abbrev pub invariant-loop-leaf : goal.invariant-loop-leaf
invariant-loop-leaf l = view_cells l.cells ≡ flatten (view_layout (take l.leaf-index l.leaf-items)) (view_settings l.set)
