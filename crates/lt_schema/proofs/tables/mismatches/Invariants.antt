use Rattle.std.specs.Prelude.{drop, ◌≡◌}
use Rattle.lt_tables.specs.Schema.{is_mismatch}
use Rattle.lt_schema.specs.View.{view_version}
use Rattle.lt_schema.proofs.tables.mismatches.Given as goal

abbrev pub invariant-loop-table : goal.invariant-loop-table
invariant-loop-table l = is_mismatch (drop l.table-index l.tables) (view_version l.version) ≡ is_mismatch l.tables (view_version l.version)
