use Rattle.lt_steps.proofs.ReadsLaws.{memory_reads}
use Rattle.lt_steps.proofs.memory_reads.Goals as goal

pub returns : goal.returns
returns c = memory_reads
