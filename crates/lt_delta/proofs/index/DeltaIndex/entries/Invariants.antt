use Rattle.std.proofs.Common.{◌≡◌, drop}
use Rattle.lt_delta.specs.Meeting.{entries_of}
use Rattle.lt_delta.specs.View.{view_tables}
use Rattle.lt_delta.proofs.index.DeltaIndex.entries.Given as goal

abbrev pub invariant-loop-one : goal.invariant-loop-one
invariant-loop-one l = entries_of (view_tables (drop l.one-index l.one-items)) l.table ≡ entries_of (view_tables l.one-items) l.table
