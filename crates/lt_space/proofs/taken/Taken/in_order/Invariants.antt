use Rattle.lt_space.proofs.Spots.{AreFirst}
use Rattle.lt_space.proofs.taken.Taken.in_order.Given as goal

abbrev pub invariant-loop-number : goal.invariant-loop-number
invariant-loop-number l = AreFirst l.sorted l.number l.spots.keys
