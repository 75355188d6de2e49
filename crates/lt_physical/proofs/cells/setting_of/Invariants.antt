use Rattle.std.proofs.Common.{◌≡◌, drop}
use Rattle.lt_terms.specs.Layout.{setting}
use Rattle.lt_core.specs.View.{view_settings}
use Rattle.lt_physical.proofs.cells.setting_of.Given as goal

abbrev pub invariant-loop-given : goal.invariant-loop-given
invariant-loop-given l = setting l.number (view_settings (drop l.given-index l.given-items)) ≡ setting l.number (view_settings l.set)
