use Rattle.std.proofs.Common.{◌≡◌, drop}
use Rattle.lt_terms.specs.Layout.{value_along}
use Rattle.lt_core.specs.View.{view_value}
use Rattle.lt_physical.specs.Cells.{value_found}
use Rattle.lt_physical.proofs.cells.value_along.Given as goal

abbrev pub invariant-loop-number : goal.invariant-loop-number
invariant-loop-number l = value_along (drop l.number-index l.number-items) (value_found l.part) ≡ value_along l.path (view_value l.value)
