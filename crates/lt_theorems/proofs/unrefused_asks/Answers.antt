use Rattle.lt_session_laws.proofs.MemoryLaws.{unrefused_asks}
use Rattle.lt_theorems.proofs.unrefused_asks.Goals as goal

pub returns : goal.returns
returns c = unrefused_asks
