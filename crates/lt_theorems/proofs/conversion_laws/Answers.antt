use Rattle.lt_laws.proofs.ConversionLemmas.{conversion_laws}
use Rattle.lt_theorems.proofs.conversion_laws.Goals as goal

pub returns : goal.returns
returns c = conversion_laws
