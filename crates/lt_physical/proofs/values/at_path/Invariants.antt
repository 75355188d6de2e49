use Rattle.std.proofs.Common.{◌≡◌, drop}
use Rattle.lt_terms.specs.Layout.{at_path}
use Rattle.lt_physical.specs.Placed.{view_placed}
use Rattle.lt_physical.proofs.values.at_path.Given as goal

abbrev pub invariant-loop-one : goal.invariant-loop-one
invariant-loop-one l = at_path l.column l.path (view_placed (drop l.one-index l.placed)) ≡ at_path l.column l.path (view_placed l.placed)
