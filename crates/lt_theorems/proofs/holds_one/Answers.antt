use Rattle.lt_laws.proofs.OneImage.{holds_one}
use Rattle.lt_theorems.proofs.holds_one.Goals as goal

pub returns : goal.returns
returns c = holds_one
