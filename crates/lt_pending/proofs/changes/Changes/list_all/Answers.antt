use Rattle.std.proofs.Common.{◌∙◌}
use Rattle.lt_pending.proofs.Lists.{key-next}
use Rattle.lt_pending.proofs.changes.Changes.list_all.Goals as goal

pub loop-stamps-preserved : goal.loop-stamps-preserved
loop-stamps-preserved c =
    key-next c.loop-stamps.list.items c.list_stamps.new.list.items c.loop-stamps.stamps-iterator.iter c.next.new.self.iter (c.in-Some.field-0-0.now, c.in-Some.stamps.now) c.in-Some.ensures.steps c.in_ok-list_stamps.ensures
    ∙ c.loop-stamps.invariant
