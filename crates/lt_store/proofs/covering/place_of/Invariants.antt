use Rattle.std.specs.Prelude.{drop, ◌≡◌}
use Rattle.std.specs.List.{list_any}
use Rattle.lt_core.specs.View.{view_layout, view_leaf}
use Rattle.lt_store.specs.Covering.{takes_leaf}
use Rattle.lt_store.proofs.covering.place_of.Given as goal

abbrev pub invariant-loop-at : goal.invariant-loop-at
invariant-loop-at l = list_any (takes_leaf (view_leaf l.leaf)) (view_layout (drop l.at l.carriers)) ≡ list_any (takes_leaf (view_leaf l.leaf)) (view_layout l.carriers)
