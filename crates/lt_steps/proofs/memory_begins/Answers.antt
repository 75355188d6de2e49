use Rattle.lt_steps.proofs.BeginsLaws.{memory_begins}
use Rattle.lt_steps.proofs.memory_begins.Goals as goal

pub returns : goal.returns
returns c = memory_begins
