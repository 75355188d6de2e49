use Rattle.lt_steps.proofs.SplitMemory.{memory_splits}
use Rattle.lt_steps.proofs.memory_splits.Goals as goal

pub returns : goal.returns
returns c = memory_splits
