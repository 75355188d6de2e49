use Rattle.std.proofs.Common.{Err, ap, sym, ◌∙◌}
use Rattle.lt_disk.proofs.Moments.{Device}
use Rattle.lt_manifest.specs.View.{view_manifest}
use Rattle.lt_replica.specs.Committing.{answer_for}
use Rattle.lt_replica.proofs.CommitLaws.{has_run}
use Rattle.lt_replica.proofs.committing.commit.Given as given
use Rattle.lt_replica.proofs.committing.commit.Goals as goal

abbrev device : (g : given.Over) → Device g.row.D.Denot
device g = record { state = g.D.Disk.state; counts_now = g.met.D.Disk.counts_now; only_now = g.met.D.Disk.only_now; reads_an_image = g.met.D.Disk.reads_an_image }

pub returns-in-Ok : goal.returns-in-Ok
returns-in-Ok g c =
    let e = c.commit.ensures in
    has_run (device g) c.args.disk.now c.commit.new.disk c.args.store.now c.commit.new.self (view_manifest c.args.next.now) c.commit.result _ e.leads e.ok e.kept e.refused e.untouched e.goes e.cause e.breaks e.read (ap answer_for (sym (c.in-Ok.is)))

pub returns-in-Err-Disk : goal.returns-in-Err-Disk
returns-in-Err-Disk g c =
    let e = c.commit.ensures in
    has_run (device g) c.args.disk.now c.commit.new.disk c.args.store.now c.commit.new.self (view_manifest c.args.next.now) c.commit.result _ e.leads e.ok e.kept e.refused e.untouched e.goes e.cause e.breaks e.read (ap answer_for (sym (c.in-Err-Disk.is ∙ ap Err c.in-Err-Disk.field-0-is)))

pub returns-in-Err-StoreFull : goal.returns-in-Err-StoreFull
returns-in-Err-StoreFull g c =
    let e = c.commit.ensures in
    has_run (device g) c.args.disk.now c.commit.new.disk c.args.store.now c.commit.new.self (view_manifest c.args.next.now) c.commit.result _ e.leads e.ok e.kept e.refused e.untouched e.goes e.cause e.breaks e.read (ap answer_for (sym (c.in-Err-StoreFull.is ∙ ap Err c.in-Err-StoreFull.field-0-is)))

pub returns-in-Err-Memory : goal.returns-in-Err-Memory
returns-in-Err-Memory g c =
    let e = c.commit.ensures in
    has_run (device g) c.args.disk.now c.commit.new.disk c.args.store.now c.commit.new.self (view_manifest c.args.next.now) c.commit.result _ e.leads e.ok e.kept e.refused e.untouched e.goes e.cause e.breaks e.read (ap answer_for (sym (c.in-Err-Memory.is ∙ ap Err c.in-Err-Memory.field-0-is)))
