use Rattle.std.specs.Prelude.{drop, ◌≡◌}
use Rattle.lt_tables.specs.Schema.{table_named}
use Rattle.lt_schema.proofs.tables.named.Given as goal

abbrev pub invariant-loop-table : goal.invariant-loop-table
invariant-loop-table l = table_named (drop l.table-index l.tables) l.name ≡ table_named l.tables l.name
