use Rattle.lt_records.proofs.KeyLength.{too_long}
use Rattle.lt_records.proofs.reading.key_length.key_fits.Goals as goal

pub returns-in_default : goal.returns-in_default
returns-in_default c =
    too_long c.args.parts.now c.as_slice-part-items.result.now c.part-item.result c.loop-part.part-index c.loop-part.left c.as_slice-part-items.ensures c.loop-part-test.true c.part-item.is c.loop-part.invariant c.in_default.ensures
