use Rattle.lt_theorems.proofs.VersionLaws.{version_laws}
use Rattle.lt_theorems.proofs.version_laws.Goals as goal

pub returns : goal.returns
returns c = version_laws
