use Rattle.std.specs.Prelude.{flat_map, ◌++◌, ◌≡◌}
use Rattle.lt_core.specs.View.{view_layout}
use Rattle.lt_physical.specs.Leaves.{carrier_leaves}
use Rattle.lt_physical.proofs.layouts.carrier_layout.Given as goal

abbrev pub invariant-loop-column : goal.invariant-loop-column
invariant-loop-column l = view_layout l.layout ++ flat_map (carrier_leaves l.cat l.number) l.column-iterator ≡ flat_map (carrier_leaves l.cat l.number) l.initial.column-iterator
