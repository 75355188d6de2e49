use Rattle.std.proofs.Common.{◌≡◌, drop}
use Rattle.lt_terms.specs.Layout.{sets}
use Rattle.lt_physical.specs.Placed.{view_placed}
use Rattle.lt_physical.proofs.values.sets.Given as goal

abbrev pub invariant-loop-one : goal.invariant-loop-one
invariant-loop-one l = sets l.column (view_placed (drop l.one-index l.placed)) ≡ sets l.column (view_placed l.placed)
