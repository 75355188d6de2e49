use Rattle.lt_disk.proofs.Moments.{told_at, where_told}
use Rattle.lt_store.proofs.Heads.{limit_stated}
use Rattle.lt_store.proofs.manifests.stated_limit.Goals as goal

pub returns-clause-limit : goal.returns-clause-limit
returns-clause-limit g c =
    where_told (g.D.Disk.state c.args.disk.now).told _ (λ image tells m is.
    limit_stated image c.read_at.new.buf c.args.at c.limit_in.result m c.read_at.auto.buf (told_at (g.D.Disk.state c.args.disk.now).told image _ tells c.in_ok-read_at.ensures.bytes) c.limit_in.ensures is)
