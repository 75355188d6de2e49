use Rattle.std.proofs.Common.{map, take, ◌≡◌}
use Rattle.lt_manifest.specs.View.{view_part}
use Rattle.lt_replica.specs.Opening.{begun_entry}
use Rattle.lt_replica.proofs.opening.entries_of.Given as goal

abbrev pub invariant-loop-part : goal.invariant-loop-part
invariant-loop-part l = l.entries.items ≡ map begun_entry (map view_part (take l.part-index l.part-items))
