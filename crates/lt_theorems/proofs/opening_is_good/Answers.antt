use Rattle.lt_laws.proofs.SoundLaws.{opening_is_good}
use Rattle.lt_theorems.proofs.opening_is_good.Goals as goal

pub returns : goal.returns
returns c = opening_is_good
