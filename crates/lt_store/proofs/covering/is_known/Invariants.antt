use Rattle.std.specs.Prelude.{◌≡◌, drop}
use Rattle.lt_machine.specs.Run.{is_known_index}
use Rattle.lt_delta.specs.View.{view_index, view_tables}
use Rattle.lt_store.proofs.covering.is_known.Given as goal

abbrev pub invariant-loop-table : goal.invariant-loop-table
invariant-loop-table l = is_known_index l.catalogue (view_tables (drop l.table-index l.table-items)) ≡ is_known_index l.catalogue (view_index l.index)
