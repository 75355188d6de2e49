use Rattle.lt_session_laws.proofs.StopLaws.{pump_laws}
use Rattle.lt_theorems.proofs.pump_laws.Goals as goal

pub returns : goal.returns
returns c = pump_laws
