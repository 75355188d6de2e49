use Rattle.std.proofs.Common.{map, take, ◌≡◌}
use Rattle.lt_manifest.specs.View.{view_stored}
use Rattle.lt_manifest.proofs.reading.rules.offsets_of.Given as goal

abbrev pub invariant-loop-point : goal.invariant-loop-point
invariant-loop-point l = l.offsets.items ≡ map (λ p. p.0) (map view_stored (take l.point-index l.points))
