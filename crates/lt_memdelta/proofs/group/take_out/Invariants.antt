use Rattle.std.proofs.Common.{◌≡◌, ◌+◌}
use Rattle.lt_memdelta.specs.Deltas.{total, with_rows}
use Rattle.lt_memdelta.specs.Groups.{without}
use Rattle.lt_memdelta.proofs.Grouped.{partly}
use Rattle.lt_memdelta.proofs.group.take_out.Given as goal

abbrev pub invariant-loop-i : goal.invariant-loop-i
invariant-loop-i l = (l.groups ≡ partly (with_rows (without l.key l.ts)) l.i l.initial.groups) × (total l.groups + l.removed ≡ total l.initial.groups)
