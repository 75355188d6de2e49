use Rattle.std.specs.Prelude.{map, take, ◌++◌, ◌≡◌}
use Rattle.lt_storage.specs.Store.{entry_extent}
use Rattle.lt_delta.specs.View.{view_entries}
use Rattle.lt_store.proofs.extents.add_table.Given as goal

abbrev pub invariant-loop-entry : goal.invariant-loop-entry
invariant-loop-entry l = l.all.items ≡ l.fn.all.items ++ map entry_extent (view_entries (take l.entry-index l.entry-items))
