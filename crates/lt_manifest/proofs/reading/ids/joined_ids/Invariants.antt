use Rattle.std.proofs.Common.{flat_map, map, take, ◌≡◌}
use Rattle.lt_manifest.specs.View.{view_part}
use Rattle.lt_manifest.proofs.reading.ids.joined_ids.Given as goal

abbrev pub invariant-loop-part : goal.invariant-loop-part
invariant-loop-part l = l.ids.items ≡ flat_map (λ p. p.ids) (map view_part (take l.part-index l.parts))
