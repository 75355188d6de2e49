use Rattle.lt_store.proofs.Places.{further}
use Rattle.lt_store.proofs.extents.standing_at.Goals as goal

pub loop-extent-preserved : goal.loop-extent-preserved
loop-extent-preserved c =
    further c.args.live.now c.loop-extent.extent-index c.args.place (record { place = 0; length = 0 }) c.loop-extent-test.true c.if-extent-place.false c.loop-extent.invariant
