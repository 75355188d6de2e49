use Rattle.std.proofs.Common.{map, take, ◌≡◌}
use Rattle.lt_manifest.specs.View.{view_stream}
use Rattle.lt_store.specs.Making.{bare_stream}
use Rattle.lt_replica.proofs.committing.bare_streams.Given as goal

abbrev pub invariant-loop-low : goal.invariant-loop-low
invariant-loop-low l = map view_stream l.streams ≡ map bare_stream (take l.low-index l.lows)
