use Rattle.lt_theorems.proofs.VersionLaws.{layout_laws}
use Rattle.lt_theorems.proofs.layout_laws.Goals as goal

pub returns : goal.returns
returns c = layout_laws
