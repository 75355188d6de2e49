use Rattle.lt_reply.proofs.StatusLines.{more_parts}
use Rattle.lt_reply.proofs.text.status.parts_text.Goals as goal

pub loop-number-preserved : goal.loop-number-preserved
loop-number-preserved c =
    more_parts c.args.parts.now c.loop-number.number c.index-parts-number.result _ _ _ c.loop-number-test.true c.index-parts-number.is c.loop-number.invariant c.in_ok-put_part.ensures
