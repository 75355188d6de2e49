use Rattle.lt_schema.proofs.Rising.{Passed}
use Rattle.lt_schema.proofs.adding.numbers.not_above.Given as goal

abbrev pub invariant-loop-number : goal.invariant-loop-number
invariant-loop-number l = Passed l.fault l.before l.number-index l.number-items
