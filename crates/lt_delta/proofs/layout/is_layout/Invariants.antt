use Rattle.std.proofs.Common.{[], ◌≡◌, drop}
use Rattle.lt_core.specs.View.{view_layout}
use Rattle.lt_delta.specs.Layouts.{are_in_order, cursor}
use Rattle.lt_delta.proofs.layout.is_layout.Given as goal

abbrev pub invariant-loop-leaf : goal.invariant-loop-leaf
invariant-loop-leaf l = are_in_order l.column (cursor l.path l.presence) (view_layout (drop l.leaf-index l.leaf-items)) ≡ are_in_order 0 [] (view_layout l.leaf-items)
