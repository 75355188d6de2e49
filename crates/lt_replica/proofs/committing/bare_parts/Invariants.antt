use Rattle.std.proofs.Common.{map, take, ◌≡◌}
use Rattle.lt_manifest.specs.View.{view_part}
use Rattle.lt_replica.specs.Settling.{part_of_entry}
use Rattle.lt_replica.proofs.committing.bare_parts.Given as goal

abbrev pub invariant-loop-part : goal.invariant-loop-part
invariant-loop-part l = map view_part l.parts ≡ take l.part (map part_of_entry l.map)
