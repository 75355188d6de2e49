use Rattle.std.specs.Prelude.{drop, take, ◌++◌, ◌≡◌}
use Rattle.lt_tables.specs.Schema.{without_version}
use Rattle.lt_schema.proofs.tables.retire_version.Given as goal

abbrev pub invariant-loop-table : goal.invariant-loop-table
invariant-loop-table l = l.table-items ≡ without_version (take l.table-index l.initial.table-items) l.number l.version ++ drop l.table-index l.initial.table-items
