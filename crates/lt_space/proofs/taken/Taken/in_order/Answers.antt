use Rattle.std.proofs.Common.{subst, sym, ◌+◌}
use Rattle.lt_space.proofs.Spots.{AreFirst, first_more}
use Rattle.lt_space.proofs.taken.Taken.in_order.Goals as goal

pub loop-number-preserved : goal.loop-number-preserved
loop-number-preserved c =
    let sorted = c.args.sorted.now in
    let i = c.loop-number.number in
    subst (AreFirst sorted (i + 1)) (sym c.in_ok-insert.ensures.keys)
    (first_more c.requires.0 sorted i (record { place = 0; length = 0 }) c.loop-number.spots.keys c.requires.1 c.loop-number-test.true c.loop-number.invariant)
