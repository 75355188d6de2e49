use Rattle.lt_laws.proofs.FrontStands.{front_laws}
use Rattle.lt_theorems.proofs.front_laws.Goals as goal

pub returns : goal.returns
returns c = front_laws
