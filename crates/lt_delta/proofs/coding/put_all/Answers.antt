use Rattle.std.proofs.Common.{refl}
use Rattle.lt_delta.proofs.Items.{at_item}
use Rattle.lt_delta.proofs.coding.put_all.Goals as goal

pub put-requires : goal.put-requires
put-requires g c = at_item g.T.Coded.codec.Lawful g.T.Coded.view c.args.items.now c.args.items.now c.loop-item.item-index c.item-item.result c.requires refl c.loop-item-test.true c.item-item.is
