use Rattle.lt_theorems.proofs.VersionLaws.{list_laws}
use Rattle.lt_theorems.proofs.list_laws.Goals as goal

pub returns : goal.returns
returns c = list_laws
