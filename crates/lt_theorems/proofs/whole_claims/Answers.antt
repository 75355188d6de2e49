use Rattle.lt_laws.proofs.ListLaws.{whole-claims}
use Rattle.lt_theorems.proofs.whole_claims.Goals as goal

pub returns : goal.returns
returns c = whole-claims
