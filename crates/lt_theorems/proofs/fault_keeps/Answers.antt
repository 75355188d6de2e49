use Rattle.lt_session_laws.proofs.FaultLaws.{fault_keeps}
use Rattle.lt_theorems.proofs.fault_keeps.Goals as goal

pub returns : goal.returns
returns c = fault_keeps
