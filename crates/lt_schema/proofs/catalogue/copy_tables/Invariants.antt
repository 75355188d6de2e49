use Rattle.std.specs.Prelude.{take, ◌≡◌}
use Rattle.lt_schema.proofs.catalogue.copy_tables.Given as goal

abbrev pub invariant-loop-table : goal.invariant-loop-table
invariant-loop-table l = l.copies.items ≡ take l.table-index l.tables.items
