use Rattle.lt_replica.specs.Opening.{HoldsNothing}
use Rattle.lt_replica.proofs.opening.empty_parts.Given as goal

abbrev pub invariant-loop : goal.invariant-loop
invariant-loop l = HoldsNothing l.counter l.parts.items
