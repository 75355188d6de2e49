use Rattle.std.specs.Prelude.{take, ◌≡◌}
use Rattle.lt_schema.proofs.table.Table.copy.Given as goal

abbrev pub invariant-loop-registered : goal.invariant-loop-registered
invariant-loop-registered l = l.versions.items ≡ take l.registered-index l.registered-items
