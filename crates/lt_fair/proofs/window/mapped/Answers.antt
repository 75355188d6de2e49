use Rattle.std.proofs.Common.{◌∙◌}
use Rattle.lt_fair.proofs.WindowLaws.{filled_more}
use Rattle.lt_fair.proofs.window.mapped.Goals as goal

pub loop-key-preserved : goal.loop-key-preserved
loop-key-preserved c =
    let below = c.comes_last.ensures c.if-not-comes_last.false in
    c.in_ok-insert.ensures.entries ∙ filled_more c.deref-key-items.result.now c.loop-key.map.entries c.loop-key.key-index c.loop-key-item.result c.in_ok-copy.field-0 c.in_ok-copy.ensures c.loop-key-test.true c.loop-key-item.is c.loop-key.invariant below
