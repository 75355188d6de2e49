use Rattle.lt_laws.proofs.FlattenLemmas.{flattens_back}
use Rattle.lt_theorems.proofs.flattens_back.Goals as goal

pub returns : goal.returns
returns c = flattens_back
