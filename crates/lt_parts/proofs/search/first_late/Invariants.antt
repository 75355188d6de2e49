use Rattle.lt_parts.specs.Search.{NoneBelow}
use Rattle.lt_parts.proofs.search.first_late.Given as goal

abbrev pub invariant-loop-part : goal.invariant-loop-part
invariant-loop-part l = NoneBelow l.entries l.first l.part l.at
