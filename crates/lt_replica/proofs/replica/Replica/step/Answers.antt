use Rattle.std.proofs.Common.{Bool, ap, false, subst, sym, ◌∙◌, ◌≡◌}
use Rattle.lt_command.specs.View.{view_command}
use Rattle.lt_tables.specs.Query.{do_schema}
use Rattle.lt_pump.proofs.FeedLaws.{goes_itself}
use Rattle.lt_replica.proofs.BuiltLaws.{scans_plain}
use Rattle.lt_replica.proofs.PumpSteps.{pump_spoken, pump_step, some_asked}
use Rattle.lt_replica.proofs.ScanSteps.{scan_spoken, scan_step}
use Rattle.lt_replica.proofs.CommitSteps.{Knows, commits_retire, commits_schema, commits_split}
use Rattle.lt_replica.proofs.CommittedSteps.{commit_leads}
use Rattle.lt_replica.proofs.StepLaws.{at_command, rows_stay, spoken_by, status_step, world_goes, world_stays}
use Rattle.lt_replica.proofs.TriedSteps.{tried_fed, tried_fell, tried_goes, tried_spoken, tried_world}
use Rattle.lt_world.specs.Disk.{DiskGoes}
use Rattle.lt_replica.proofs.replica.Replica.step.Given as given
use Rattle.lt_replica.proofs.replica.Replica.step.Goals as goal

abbrev knows : (g : given.Over) (old new : g.row.D.Denot) → DiskGoes (g.D.Disk.state old) (g.D.Disk.state new) → Knows (g.D.Disk.state old) (g.D.Disk.state new)
knows g old new goes = record { counts = λ image i. g.met.D.Disk.counts_now new (g.D.Disk.state old).clock image goes.clock i }

led_not : (g : given.Over) (rows : g.row.R.Denot) (fault : Bool) → fault ≡ false → g.R.RowSink.led rows rows fault
led_not g rows fault is = subst (g.R.RowSink.led rows rows) (sym is) (g.met.R.RowSink.led_nowhere rows)

pub returns-in-Schema-clause-stepped : goal.returns-in-Schema-clause-stepped
returns-in-Schema-clause-stepped g c =
    at_command _ _ _ _ _ (sym (ap view_command c.in-Schema.is ∙ ap do_schema (sym c.as_slice.ensures)))
    (commit_leads _ _ _ _ _ _ _ _ (commits_schema _) (knows g c.args.disk.now c.schema.new.disk (tried_goes _ _ _ _ _ _ c.schema.ensures)) c.schema.ensures)

pub returns-in-Schema-clause-fed : goal.returns-in-Schema-clause-fed
returns-in-Schema-clause-fed g c = tried_fed _ _ (g.F.Feed.state c.args.feed.now) _ _ _ _ c.schema.ensures c.requires.fed

pub returns-in-Schema-clause-spoken : goal.returns-in-Schema-clause-spoken
returns-in-Schema-clause-spoken g c = tried_spoken _ _ _ _ _ _ c.schema.ensures

pub returns-in-Schema-clause-goes : goal.returns-in-Schema-clause-goes
returns-in-Schema-clause-goes g c = tried_world _ _ _ _ (tried_goes _ _ _ _ _ _ c.schema.ensures)

pub returns-in-Retire-clause-stepped : goal.returns-in-Retire-clause-stepped
returns-in-Retire-clause-stepped g c =
    at_command _ _ _ _ _ (sym (ap view_command c.in-Retire.is))
    (commit_leads _ _ _ _ _ _ _ _ (commits_retire _ _) (knows g c.args.disk.now c.retire.new.disk (tried_goes _ _ _ _ _ _ c.retire.ensures)) c.retire.ensures)

pub returns-in-Retire-clause-fed : goal.returns-in-Retire-clause-fed
returns-in-Retire-clause-fed g c = tried_fed _ _ (g.F.Feed.state c.args.feed.now) _ _ _ _ c.retire.ensures c.requires.fed

pub returns-in-Retire-clause-spoken : goal.returns-in-Retire-clause-spoken
returns-in-Retire-clause-spoken g c = tried_spoken _ _ _ _ _ _ c.retire.ensures

pub returns-in-Retire-clause-goes : goal.returns-in-Retire-clause-goes
returns-in-Retire-clause-goes g c = tried_world _ _ _ _ (tried_goes _ _ _ _ _ _ c.retire.ensures)

pub returns-in-Split-clause-stepped : goal.returns-in-Split-clause-stepped
returns-in-Split-clause-stepped g c =
    at_command _ _ _ _ _ (sym (ap view_command c.in-Split.is))
    (commit_leads _ _ _ _ _ _ _ _ (commits_split _ _) (knows g c.args.disk.now c.split.new.disk (tried_goes _ _ _ _ _ _ c.split.ensures)) c.split.ensures)

pub returns-in-Split-clause-fed : goal.returns-in-Split-clause-fed
returns-in-Split-clause-fed g c = tried_fed _ _ (g.F.Feed.state c.args.feed.now) _ _ _ _ c.split.ensures c.requires.fed

pub returns-in-Split-clause-spoken : goal.returns-in-Split-clause-spoken
returns-in-Split-clause-spoken g c = tried_spoken _ _ _ _ _ _ c.split.ensures

pub returns-in-Split-clause-goes : goal.returns-in-Split-clause-goes
returns-in-Split-clause-goes g c = tried_world _ _ _ _ (tried_goes _ _ _ _ _ _ c.split.ensures)

pub returns-in-Pump-clause-stepped : goal.returns-in-Pump-clause-stepped
returns-in-Pump-clause-stepped g c = at_command _ _ _ _ _ (sym (ap view_command c.in-Pump.is)) (pump_step _ _ _ _ _ _ _ _ _ (some_asked _ _ c.in-Pump.is c.requires.command) c.take.ensures.feed c.take.ensures.kept c.take.ensures.called c.take.ensures.pumped c.take.ensures.refused c.take.ensures.keeps (λ image i. g.met.D.Disk.only_now c.args.disk.now image i))

pub returns-in-Pump-clause-spoken : goal.returns-in-Pump-clause-spoken
returns-in-Pump-clause-spoken g c = pump_spoken _ _ _ _ _ _ _ c.take.ensures.refused

pub returns-in-Scan-clause-stepped : goal.returns-in-Scan-clause-stepped
returns-in-Scan-clause-stepped g c = at_command _ _ _ _ _ (scans_plain _ c.in-Scan.is c.requires.command) (scan_step _ _ _ _ _ _ _ (λ image i. g.met.D.Disk.only_now c.args.disk.now image i) c.scan.ensures.goes.faults c.scan.ensures.done c.scan.ensures.refused)

pub returns-in-Scan-clause-spoken : goal.returns-in-Scan-clause-spoken
returns-in-Scan-clause-spoken g c = scan_spoken _ _ _ _ _ c.scan.ensures.refused

pub returns-in-Status-clause-stepped : goal.returns-in-Status-clause-stepped
returns-in-Status-clause-stepped g c = at_command _ _ _ _ _ (sym (ap view_command c.in-Status.is)) (status_step _ _ _ _ _ (λ image i. g.met.D.Disk.only_now c.args.disk.now image i) c.status.ensures.done c.status.ensures.refused)

pub returns-in-Status-clause-spoken : goal.returns-in-Status-clause-spoken
returns-in-Status-clause-spoken g c = spoken_by _ _ _ c.status.ensures.refused

pub returns-in-Pump-clause-goes : goal.returns-in-Pump-clause-goes
returns-in-Pump-clause-goes g c = world_goes _ _ _ _ _ c.take.ensures.feed (rows_stay _)

pub returns-in-Scan-clause-goes : goal.returns-in-Scan-clause-goes
returns-in-Scan-clause-goes g c = world_goes _ _ _ _ _ (goes_itself _) c.scan.ensures.goes

pub returns-in-Status-clause-goes : goal.returns-in-Status-clause-goes
returns-in-Status-clause-goes g c = world_stays _ _ _

pub returns-in-Schema-clause-led : goal.returns-in-Schema-clause-led
returns-in-Schema-clause-led g c = led_not g c.args.rows.now _ (tried_fell _ _ _ _ _ _ c.schema.ensures)

pub returns-in-Retire-clause-led : goal.returns-in-Retire-clause-led
returns-in-Retire-clause-led g c = led_not g c.args.rows.now _ (tried_fell _ _ _ _ _ _ c.retire.ensures)

pub returns-in-Split-clause-led : goal.returns-in-Split-clause-led
returns-in-Split-clause-led g c = led_not g c.args.rows.now _ (tried_fell _ _ _ _ _ _ c.split.ensures)
