use Rattle.std.specs.Prelude.{drop, length, ◌≡◌, ◌≤◌}
use Rattle.lt_storage.specs.Store.{is_covered}
use Rattle.lt_core.specs.View.{view_layout}
use Rattle.lt_store.proofs.covering.are_covered.Given as goal

abbrev pub invariant-loop-leaf : goal.invariant-loop-leaf
invariant-loop-leaf l = (l.from ≤ length l.carriers) × (is_covered l.catalogue l.table.number (view_layout (drop l.leaf-index l.layout)) ≡ is_covered l.catalogue l.table.number (view_layout l.layout))
