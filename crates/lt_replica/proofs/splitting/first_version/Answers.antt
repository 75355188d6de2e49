use Rattle.lt_replica.proofs.KeyOfLaws.{unless_first}
use Rattle.lt_replica.proofs.Results.{numbered_by}
use Rattle.lt_replica.proofs.splitting.first_version.Goals as goal

pub returns-clause-none : goal.returns-clause-none
returns-clause-none c = unless_first c.args.catalogue.now c.args.table.now c.in_ok-number.number c.get.result c.get.ensures.lawful (numbered_by c.args.catalogue.now c.in_ok-number.ensures c.as_slice.ensures.bytes) c.get.ensures.version
