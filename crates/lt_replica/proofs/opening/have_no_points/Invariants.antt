use Rattle.std.proofs.Common.{map, take, ◌≡◌, []}
use Rattle.std.specs.List.{AllByRecursion}
use Rattle.lt_manifest.specs.View.{view_stream}
use Rattle.lt_replica.proofs.opening.have_no_points.Given as goal

abbrev pub invariant-loop-stream : goal.invariant-loop-stream
invariant-loop-stream l = AllByRecursion (λ s. s.points ≡ []) (map view_stream (take l.stream-index l.stream-items))
