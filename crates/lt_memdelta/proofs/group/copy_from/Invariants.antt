use Rattle.std.proofs.Common.{take, ◌≡◌}
use Rattle.std.specs.Prelude.{map}
use Rattle.lt_memdelta.specs.Deltas.{total, with_rows}
use Rattle.lt_memdelta.specs.Groups.{rows_from}
use Rattle.lt_memdelta.proofs.group.copy_from.Given as goal

abbrev pub invariant-loop-group : goal.invariant-loop-group
invariant-loop-group l = (l.copies.items ≡ map (with_rows (rows_from l.low)) (take l.group-index l.groups)) × (l.count ≡ total l.copies.items)
