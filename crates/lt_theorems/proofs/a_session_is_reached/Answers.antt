use Rattle.lt_theorems.proofs.ReachedSession.{session_is_reached}
use Rattle.lt_theorems.proofs.a_session_is_reached.Goals as goal

pub returns : goal.returns
returns c = session_is_reached
