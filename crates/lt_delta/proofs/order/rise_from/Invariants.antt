use Rattle.std.proofs.Common.{◌≡◌, drop}
use Rattle.lt_delta.specs.Entries.{rises_from}
use Rattle.lt_delta.specs.View.{view_entries}
use Rattle.lt_delta.proofs.order.rise_from.Given as goal

abbrev pub invariant-loop-entry : goal.invariant-loop-entry
invariant-loop-entry l = rises_from l.last (view_entries (drop l.entry-index l.entries)) ≡ rises_from l.fn.key (view_entries l.entries)
