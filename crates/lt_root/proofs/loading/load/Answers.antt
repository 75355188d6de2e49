use Rattle.std.proofs.lemmas.Result.{MatchResult-weaker}
use Rattle.lt_root.proofs.Choosing.{counts_told, refused_told}
use Rattle.lt_root.proofs.loading.load.Goals as goal

pub returns-clause-ok : goal.returns-clause-ok
returns-clause-ok g c =
    let told = (g.D.Disk.state c.args.disk.now).told in
    MatchResult-weaker c.choose.result c.choose.ensures.ok (λ r counts. counts_told told c.read_at.new.buf r c.read_at.auto.buf c.in_ok-read_at.ensures.bytes counts) (λ e free. tt)

pub returns-clause-refused : goal.returns-clause-refused
returns-clause-refused g c =
    let told = (g.D.Disk.state c.args.disk.now).told in
    MatchResult-weaker c.choose.result c.choose.ensures.refused (λ r free. tt) (λ e refused. refused_told told c.read_at.new.buf e c.read_at.auto.buf c.in_ok-read_at.ensures.bytes refused)
