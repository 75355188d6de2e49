use Rattle.std.proofs.Common.{subst, sym}
use Rattle.lt_replica.proofs.StartLaws.{has_started, not_started}
use Rattle.lt_replica.specs.State.{view_start}
use Rattle.lt_machine.specs.Step.{NotStarted}
use Rattle.lt_replica.specs.BareStore.{on_bare_store}
use Rattle.lt_replica.proofs.replica.Replica.start.Goals as goal

pub returns-in-Ok-clause-started : goal.returns-in-Ok-clause-started
returns-in-Ok-clause-started g c =
    has_started (g.D.Disk.state c.args.disk.now) (g.D.Disk.state c.open.new.disk) (g.F.Feed.state c.args.feed.now) (g.F.Feed.state c.open.new.feed) c.in-Ok.replica c.in-Ok.ensures.opened (g.met.D.Disk.reads_an_image c.args.disk.now) c.open.ensures.told (g.met.F.Feed.short c.open.new.feed)

pub returns-in-Err-clause-refused : goal.returns-in-Err-clause-refused
returns-in-Err-clause-refused g c =
    subst (λ e. NotStarted on_bare_store (g.D.Disk.state c.args.disk.now) (g.D.Disk.state c.open.new.disk) (g.F.Feed.state c.args.feed.now) (g.F.Feed.state c.open.new.feed) (view_start e)) (sym c.at_start.ensures)
    (not_started (g.D.Disk.state c.args.disk.now) (g.D.Disk.state c.open.new.disk) (g.F.Feed.state c.args.feed.now) (g.F.Feed.state c.open.new.feed) c.in-Err.refusal c.in-Err.ensures.refused c.open.ensures.told)
