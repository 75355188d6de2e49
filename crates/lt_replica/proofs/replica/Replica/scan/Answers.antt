use Rattle.lt_replica.proofs.ScanSteps.{scan_breaks}
use Rattle.lt_replica.proofs.replica.Replica.scan.Goals as goal

pub returns-clause-refused : goal.returns-clause-refused
returns-clause-refused g c = scan_breaks _ _ _ _ _ c.in-Err.refusal c.refusal_of.result c.in_ok-found.ensures.free c.in_ok-found.ensures.rows c.in-Err.ensures.some c.in-Err.ensures.cause c.in-Err.ensures.lacks c.refusal_of.ensures.fault c.refusal_of.ensures.memory
