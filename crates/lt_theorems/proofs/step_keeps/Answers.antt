use Rattle.lt_session_laws.proofs.AllSteps.{step_keeps}
use Rattle.lt_theorems.proofs.step_keeps.Goals as goal

pub returns : goal.returns
returns c = step_keeps
