use Rattle.lt_session_laws.proofs.NeverFalls.{minimum_never_falls}
use Rattle.lt_theorems.proofs.minimum_never_falls.Goals as goal

pub returns : goal.returns
returns c = minimum_never_falls
