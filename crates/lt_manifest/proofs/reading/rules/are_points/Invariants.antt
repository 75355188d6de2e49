use Rattle.std.proofs.Common.{drop, map, ◌≡◌}
use Rattle.lt_manifest.specs.Rules.{are_points}
use Rattle.lt_manifest.specs.View.{view_stored}
use Rattle.lt_manifest.proofs.reading.rules.are_points.Given as goal

abbrev pub invariant-loop-stored : goal.invariant-loop-stored
invariant-loop-stored l = are_points (map view_stored (drop l.stored-index l.points)) ≡ are_points (map view_stored l.points)
