use Rattle.lt_memdelta.specs.Deltas.{EachRow}
use Rattle.tests_base.specs.Stands.{StandsBy}
use Rattle.tests_base.proofs.deltas.three_groups.Given as goal

abbrev pub invariant-loop-i : goal.invariant-loop-i
invariant-loop-i l = EachRow (StandsBy l.i) l.delta
