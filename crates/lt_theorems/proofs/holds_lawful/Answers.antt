use Rattle.lt_laws.proofs.LawfulImages.{holds_lawful}
use Rattle.lt_theorems.proofs.holds_lawful.Goals as goal

pub returns : goal.returns
returns c = holds_lawful
