use Rattle.lt_steps.proofs.GrowsLaws.{memory_grows}
use Rattle.lt_steps.proofs.memory_grows.Goals as goal

pub returns : goal.returns
returns c = memory_grows
