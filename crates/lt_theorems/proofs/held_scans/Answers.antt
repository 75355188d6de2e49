use Rattle.lt_session_laws.proofs.MemoryLaws.{held_scans}
use Rattle.lt_theorems.proofs.held_scans.Goals as goal

pub returns : goal.returns
returns c = held_scans
