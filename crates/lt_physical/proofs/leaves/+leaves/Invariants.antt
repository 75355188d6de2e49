use Rattle.std.proofs.Common.{take, ◌++◌, ◌≡◌}
use Rattle.lt_terms.specs.Layout.{field_leaves}
use Rattle.lt_core.specs.View.{view_layout}
use Rattle.lt_schema.specs.View.{view_fields}
use Rattle.lt_physical.proofs.leaves.+leaves.Given as goal

abbrev pub invariant-add_field_leaves-loop-number : goal.invariant-add_field_leaves-loop-number
invariant-add_field_leaves-loop-number l = view_layout l.layout ≡ view_layout l.fn.layout ++ field_leaves l.column l.path (view_fields (take l.number-index l.number-items))
