use Rattle.tests_base.proofs.Stands.{stand-lawful}
use Rattle.tests_base.proofs.deltas.rows_in_random_order_are_walked_in_order.Goals as goal

pub walked-requires : goal.walked-requires
walked-requires g c = stand-lawful c.loop-i.i c.loop-i.delta c.loop-i.invariant
