use Rattle.std.proofs.Common.{◌∙◌}
use Rattle.lt_memdelta.proofs.keys.drop_from.Goals as goal

pub last-preserved : goal.last-preserved
last-preserved c = c.pop_from.ensures.below ∙ c.last.invariant

pub returns : goal.returns
returns c = c.pop_from.ensures.end c.last-test.false ∙ c.last.invariant
