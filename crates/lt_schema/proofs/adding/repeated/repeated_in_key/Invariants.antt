use Rattle.lt_schema.proofs.SeenLaws.{SoFar}
use Rattle.lt_schema.proofs.adding.repeated.repeated_in_key.Given as goal

abbrev pub invariant-loop-column : goal.invariant-loop-column
invariant-loop-column l = SoFar (λ c. c.name) l.seen l.column-index l.key
