use Rattle.lt_session_laws.proofs.GrowthLaws.{growth_keeps}
use Rattle.lt_theorems.proofs.growth_keeps.Goals as goal

pub returns : goal.returns
returns c = growth_keeps
