use Rattle.std.proofs.Common.{subst}
use Rattle.std.specs.Prelude.{Contains}
use Rattle.lt_space.proofs.Spots.{has_spot}
use Rattle.lt_space.proofs.taken.Taken.last_before.Goals as goal

pub returns-clause-taken : goal.returns-clause-taken
returns-clause-taken c =
    let k = c.in_ok-spot.spot.now in
    let last = (c.range.ensures.in_range tt).3 k c.next_back.new.self c.in_ok-spot.ensures.steps in
    subst (λ l. Contains l c.extent_at.result) c.self.view_is (has_spot c.self.inside.spots.keys k c.extent_at.result last.1 c.extent_at.ensures)
