use Rattle.std.proofs.Common.{◌≡◌, drop}
use Rattle.std.specs.List.{list_all}
use Rattle.lt_storage.specs.Store.{is_entry}
use Rattle.lt_delta.specs.View.{view_entries}
use Rattle.lt_delta.proofs.order.is_each_lawful.Given as goal

abbrev pub invariant-loop-entry : goal.invariant-loop-entry
invariant-loop-entry l = list_all is_entry (view_entries (drop l.entry-index l.entry-items)) ≡ list_all is_entry (view_entries l.entry-items)
