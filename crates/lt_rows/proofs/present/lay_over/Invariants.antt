use Rattle.std.proofs.Common.{◌≡◌}
use Rattle.lt_core.specs.View.{view_settings}
use Rattle.lt_rows.specs.Present.{laid_over}
use Rattle.lt_rows.specs.View.{view_set}
use Rattle.lt_rows.proofs.present.lay_over.Given as goal

abbrev pub invariant-loop-number : goal.invariant-loop-number
invariant-loop-number l = laid_over (view_settings l.number-iterator.iter.rest.now) (view_set l.was.entries) ≡ laid_over (view_settings l.settings) (view_set l.initial.was.entries)
