use Rattle.std.specs.Prelude.{drop, length, ◌<◌, ◌≤◌}
use Rattle.std.specs.List.{AllByRecursion}
use Rattle.lt_schema.proofs.carrier.above.Given as goal

abbrev pub invariant-loop-at : goal.invariant-loop-at
invariant-loop-at l = record { within : l.at ≤ length l.falling; lower : AllByRecursion (λ f. f.0 < l.number) (drop l.at l.falling) }

abbrev pub decreases-loop-at : goal.decreases-loop-at
decreases-loop-at l = l.at
