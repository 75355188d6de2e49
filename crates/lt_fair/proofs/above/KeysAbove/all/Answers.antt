use Rattle.lt_fair.proofs.AboveLaws.{above_none}
use Rattle.lt_fair.proofs.above.KeysAbove.all.Goals as goal

pub returns : goal.returns
returns c = above_none c.args.map.entries
