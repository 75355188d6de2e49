use Rattle.std.proofs.Common.{◌∙◌}
use Rattle.lt_fair.proofs.AboveLaws.{above_none}
use Rattle.lt_fair.proofs.above.bound_below.Goals as goal

pub returns-clause-same : goal.returns-clause-same
returns-clause-same c = above_none c.prune.new.map.entries ∙ c.prune.ensures.entries
