use Rattle.std.proofs.Common.{List, ap, length, refl, subst, sym, ◌∙◌, ◌≤◌}
use Rattle.lt_command.specs.View.{view_command}
use Rattle.lt_tables.specs.Pump.{StreamAt}
use Rattle.lt_tables.specs.Query.{do_schema}
use Rattle.lt_pump.proofs.FeedLaws.{goes_itself}
use Rattle.lt_engine.proofs.BuiltLaws.{scans_plain}
use Rattle.lt_engine.proofs.PumpSteps.{pump_spoken, pump_step, some_asked}
use Rattle.lt_engine.proofs.ScanSteps.{scan_spoken, scan_step}
use Rattle.lt_engine.proofs.StepLaws.{at_command, retire_step, retire_streams, schema_step, schema_streams, split_step, split_streams, rows_stay, spoken_by, status_step, world_goes, world_stays}
use Rattle.lt_engine.proofs.replica.Replica.step.Goals as goal

pub returns-in-Schema-clause-stepped : goal.returns-in-Schema-clause-stepped
returns-in-Schema-clause-stepped g c = at_command _ _ _ _ _ (sym (ap view_command c.in-Schema.is ∙ ap do_schema (sym c.as_slice.ensures))) (schema_step _ _ _ _ _ _ _ c.schema.ensures.done c.schema.ensures.refused)

pub returns-in-Schema-clause-fed : goal.returns-in-Schema-clause-fed
returns-in-Schema-clause-fed g c = subst (λ (ss : List StreamAt). length ss ≤ (g.F.Feed.state c.args.feed.now).known) (sym (schema_streams _ _ _ _ _ c.schema.ensures.done c.schema.ensures.refused)) c.requires.fed

pub returns-in-Schema-clause-spoken : goal.returns-in-Schema-clause-spoken
returns-in-Schema-clause-spoken g c = spoken_by _ _ _ c.schema.ensures.refused

pub returns-in-Retire-clause-stepped : goal.returns-in-Retire-clause-stepped
returns-in-Retire-clause-stepped g c = at_command _ _ _ _ _ (sym (ap view_command c.in-Retire.is)) (retire_step _ _ _ _ _ _ _ _ c.retire.ensures.done c.retire.ensures.refused)

pub returns-in-Retire-clause-fed : goal.returns-in-Retire-clause-fed
returns-in-Retire-clause-fed g c = subst (λ (ss : List StreamAt). length ss ≤ (g.F.Feed.state c.args.feed.now).known) (sym (retire_streams _ _ _ _ _ _ c.retire.ensures.done c.retire.ensures.refused)) c.requires.fed

pub returns-in-Retire-clause-spoken : goal.returns-in-Retire-clause-spoken
returns-in-Retire-clause-spoken g c = spoken_by _ _ _ c.retire.ensures.refused

pub returns-in-Pump-clause-stepped : goal.returns-in-Pump-clause-stepped
returns-in-Pump-clause-stepped g c = at_command _ _ _ _ _ (sym (ap view_command c.in-Pump.is)) (pump_step _ _ _ _ _ _ _ _ _ (some_asked _ _ c.in-Pump.is c.requires.command) c.take.ensures.feed c.take.ensures.kept c.take.ensures.called c.take.ensures.pumped c.take.ensures.refused)

pub returns-in-Pump-clause-spoken : goal.returns-in-Pump-clause-spoken
returns-in-Pump-clause-spoken g c = pump_spoken _ _ _ _ _ _ _ c.take.ensures.refused

pub returns-in-Split-clause-stepped : goal.returns-in-Split-clause-stepped
returns-in-Split-clause-stepped g c = at_command _ _ _ _ _ (sym (ap view_command c.in-Split.is)) (split_step _ _ _ _ _ _ _ _ c.split.ensures.done c.split.ensures.refused)

pub returns-in-Split-clause-fed : goal.returns-in-Split-clause-fed
returns-in-Split-clause-fed g c = subst (λ (ss : List StreamAt). length ss ≤ (g.F.Feed.state c.args.feed.now).known) (sym (split_streams _ _ _ _ _ c.split.ensures.done c.split.ensures.refused)) c.requires.fed

pub returns-in-Split-clause-spoken : goal.returns-in-Split-clause-spoken
returns-in-Split-clause-spoken g c = spoken_by _ _ _ c.split.ensures.refused

pub returns-in-Scan-clause-stepped : goal.returns-in-Scan-clause-stepped
returns-in-Scan-clause-stepped g c = at_command _ _ _ _ _ (scans_plain _ c.in-Scan.is c.requires.command) (scan_step _ _ _ _ _ _ _ c.scan.ensures.goes.faults c.scan.ensures.done c.scan.ensures.refused)

pub returns-in-Scan-clause-spoken : goal.returns-in-Scan-clause-spoken
returns-in-Scan-clause-spoken g c = scan_spoken _ _ _ _ _ c.scan.ensures.refused

pub returns-in-Status-clause-stepped : goal.returns-in-Status-clause-stepped
returns-in-Status-clause-stepped g c = at_command _ _ _ _ _ (sym (ap view_command c.in-Status.is)) (status_step _ _ _ _ _ c.status.ensures.done c.status.ensures.refused)

pub returns-in-Status-clause-spoken : goal.returns-in-Status-clause-spoken
returns-in-Status-clause-spoken g c = spoken_by _ _ _ c.status.ensures.refused

pub returns-in-Schema-clause-goes : goal.returns-in-Schema-clause-goes
returns-in-Schema-clause-goes g c = (refl, world_stays _ _ _)

pub returns-in-Retire-clause-goes : goal.returns-in-Retire-clause-goes
returns-in-Retire-clause-goes g c = (refl, world_stays _ _ _)

pub returns-in-Pump-clause-goes : goal.returns-in-Pump-clause-goes
returns-in-Pump-clause-goes g c = (refl, world_goes _ _ _ _ _ c.take.ensures.feed (rows_stay _))

pub returns-in-Split-clause-goes : goal.returns-in-Split-clause-goes
returns-in-Split-clause-goes g c = (refl, world_stays _ _ _)

pub returns-in-Scan-clause-goes : goal.returns-in-Scan-clause-goes
returns-in-Scan-clause-goes g c = (refl, world_goes _ _ _ _ _ (goes_itself _) c.scan.ensures.goes)

pub returns-in-Status-clause-goes : goal.returns-in-Status-clause-goes
returns-in-Status-clause-goes g c = (refl, world_stays _ _ _)
