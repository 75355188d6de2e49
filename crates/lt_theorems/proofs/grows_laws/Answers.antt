use Rattle.lt_laws.proofs.FrontLaws.{grows_laws}
use Rattle.lt_theorems.proofs.grows_laws.Goals as goal

pub returns : goal.returns
returns c = grows_laws
