use Rattle.lt_theorems.proofs.MachineLaws.{machine_laws}
use Rattle.lt_theorems.proofs.machine_laws.Goals as goal

pub returns : goal.returns
returns c = machine_laws
