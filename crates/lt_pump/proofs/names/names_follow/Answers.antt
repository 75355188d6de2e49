use Rattle.lt_pump.proofs.NameLaws.{follow}
use Rattle.lt_pump.proofs.names.names_follow.Goals as goal

pub returns : goal.returns
returns c = follow
