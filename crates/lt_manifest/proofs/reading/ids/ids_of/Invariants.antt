use Rattle.std.proofs.Common.{map, take, ◌≡◌}
use Rattle.lt_manifest.specs.View.{view_delta}
use Rattle.lt_manifest.proofs.reading.ids.ids_of.Given as goal

abbrev pub invariant-loop-delta : goal.invariant-loop-delta
invariant-loop-delta l = l.ids.items ≡ map (λ d. d.0) (map view_delta (take l.delta-index l.deltas))
