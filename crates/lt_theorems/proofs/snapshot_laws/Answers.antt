use Rattle.lt_theorems.proofs.MachineLaws.{snapshot_laws}
use Rattle.lt_theorems.proofs.snapshot_laws.Goals as goal

pub returns : goal.returns
returns c = snapshot_laws
