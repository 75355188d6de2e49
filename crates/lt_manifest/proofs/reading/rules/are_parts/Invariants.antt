use Rattle.std.proofs.Common.{drop, map, ◌≡◌}
use Rattle.std.specs.List.{list_all}
use Rattle.lt_manifest.specs.Rules.{is_part}
use Rattle.lt_manifest.specs.View.{view_part}
use Rattle.lt_manifest.proofs.reading.rules.are_parts.Given as goal

abbrev pub invariant-loop-part : goal.invariant-loop-part
invariant-loop-part l =
    list_all (is_part l.unbuilt.minimum l.unbuilt.next_id l.known) (map view_part (drop l.part-index l.parts))
    ≡ list_all (is_part l.unbuilt.minimum l.unbuilt.next_id l.known) (map view_part l.parts)
