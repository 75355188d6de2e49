use Rattle.lt_memdelta.specs.Deltas.{EachRow}
use Rattle.tests_base.specs.Stands.{StandsBy}
use Rattle.tests_base.proofs.deltas.rows_in_random_order_are_walked_in_order.Given as goal

abbrev pub invariant-loop-i : goal.invariant-loop-i
invariant-loop-i g l = EachRow (StandsBy l.i) l.delta
