use Rattle.lt_steps.proofs.PumpedMemory.{memory_pumps}
use Rattle.lt_steps.proofs.memory_pumps.Goals as goal

pub returns : goal.returns
returns c = memory_pumps
