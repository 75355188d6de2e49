use Rattle.lt_laws.proofs.ComposeLemmas.{compose_laws}
use Rattle.lt_theorems.proofs.compose_laws.Goals as goal

pub returns : goal.returns
returns c = compose_laws
