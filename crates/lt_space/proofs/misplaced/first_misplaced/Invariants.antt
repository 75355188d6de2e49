use Rattle.lt_space.proofs.Overlaps.{AreFront}
use Rattle.lt_space.proofs.misplaced.first_misplaced.Given as goal

abbrev pub invariant-loop-i : goal.invariant-loop-i
invariant-loop-i l = AreFront l.limit l.sorted l.i
