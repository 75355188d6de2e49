use Rattle.std.proofs.Common.{map, take, ◌≡◌}
use Rattle.lt_manifest.specs.View.{view_stream}
use Rattle.lt_replica.proofs.opening.lows_of.Given as goal

abbrev pub invariant-loop-stream : goal.invariant-loop-stream
invariant-loop-stream l = l.lows ≡ map (λ s. s.low) (map view_stream (take l.stream-index l.stream-items))
