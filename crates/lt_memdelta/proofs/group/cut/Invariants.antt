use Rattle.std.proofs.Common.{◌≡◌}
use Rattle.lt_memdelta.specs.Deltas.{with_rows}
use Rattle.lt_memdelta.specs.Groups.{rows_below}
use Rattle.lt_memdelta.proofs.Grouped.{partly}
use Rattle.lt_memdelta.proofs.group.cut.Given as goal

abbrev pub invariant-loop-i : goal.invariant-loop-i
invariant-loop-i l = l.groups ≡ partly (with_rows (rows_below l.low)) l.i l.initial.groups
