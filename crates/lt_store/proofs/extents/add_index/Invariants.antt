use Rattle.std.specs.Prelude.{flat_map, map, take, ◌++◌, ◌≡◌}
use Rattle.lt_storage.specs.Store.{entry_extent}
use Rattle.lt_delta.specs.View.{view_tables}
use Rattle.lt_store.proofs.extents.add_index.Given as goal

abbrev pub invariant-loop-table : goal.invariant-loop-table
invariant-loop-table l = l.all.items ≡ l.fn.all.items ++ flat_map (λ t. map entry_extent t.entries) (view_tables (take l.table-index l.table-items))
