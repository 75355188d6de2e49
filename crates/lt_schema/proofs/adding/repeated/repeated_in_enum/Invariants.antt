use Rattle.lt_schema.proofs.SeenLaws.{SoFar}
use Rattle.lt_schema.proofs.adding.repeated.repeated_in_enum.Given as goal

abbrev pub invariant-loop-name : goal.invariant-loop-name
invariant-loop-name l = SoFar (λ n. n.1) l.seen l.name-index l.name-items
