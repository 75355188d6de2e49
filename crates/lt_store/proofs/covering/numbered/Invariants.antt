use Rattle.std.specs.Prelude.{drop, ◌≡◌}
use Rattle.lt_tables.specs.Schema.{table_numbered}
use Rattle.lt_store.proofs.covering.numbered.Given as goal

abbrev pub invariant-loop-table : goal.invariant-loop-table
invariant-loop-table l = table_numbered (drop l.table-index l.tables) l.number ≡ table_numbered l.tables l.number
