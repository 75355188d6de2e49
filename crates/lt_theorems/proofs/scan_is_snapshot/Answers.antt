use Rattle.lt_laws.proofs.AnswerLaws.{scan_is_snapshot}
use Rattle.lt_theorems.proofs.scan_is_snapshot.Goals as goal

pub returns : goal.returns
returns c = scan_is_snapshot
