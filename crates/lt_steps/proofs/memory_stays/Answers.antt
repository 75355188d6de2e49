use Rattle.lt_steps.proofs.StayedMemory.{memory_stays}
use Rattle.lt_steps.proofs.memory_stays.Goals as goal

pub returns : goal.returns
returns c = memory_stays
