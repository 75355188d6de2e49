-- Each step keeps a good session: the rows of the commands, joined.
use Rattle.lt_tables.specs.Query.{do_compact, do_deltas, do_flush, do_job_begin, do_job_drop, do_job_finish, do_job_step, do_page, do_pump, do_reopen, do_retain, do_retire, do_scan, do_schema, do_split, do_status}
use Rattle.lt_machine.specs.Sound.{StepKeeps}
use Rattle.lt_session_laws.proofs.CatalogueSteps.{retire_keeps, schema_keeps}
use Rattle.lt_session_laws.proofs.CompactLaws.{compact_keeps, job_finish_keeps}
use Rattle.lt_session_laws.proofs.FlushLaws.{flush_keeps}
use Rattle.lt_session_laws.proofs.JobLaws.{job_begin_keeps, job_step_keeps}
use Rattle.lt_session_laws.proofs.PumpLaws.{pump_keeps}
use Rattle.lt_session_laws.proofs.RetainLaws.{retain_keeps}
use Rattle.lt_session_laws.proofs.SplitLaws.{split_keeps}
use Rattle.lt_session_laws.proofs.StepLaws.{by_doing, deltas_keep, job_drop_keeps, page_keeps, reopen_keeps, scan_keeps, status_keeps}

pub step_keeps : StepKeeps
step_keeps (do_schema t) = by_doing (do_schema t) (schema_keeps t)
step_keeps (do_retire t v) = by_doing (do_retire t v) (retire_keeps t v)
step_keeps (do_pump n k) = by_doing (do_pump n k) (pump_keeps n k)
step_keeps (do_flush p) = by_doing (do_flush p) (flush_keeps p)
step_keeps (do_compact p m) = by_doing (do_compact p m) (compact_keeps p m)
step_keeps (do_job_begin p m) = by_doing (do_job_begin p m) (job_begin_keeps p m)
step_keeps (do_job_step n) = by_doing (do_job_step n) (job_step_keeps n)
step_keeps do_job_finish = by_doing do_job_finish job_finish_keeps
step_keeps do_job_drop = by_doing do_job_drop job_drop_keeps
step_keeps (do_split t k) = by_doing (do_split t k) (split_keeps t k)
step_keeps (do_retain t) = by_doing (do_retain t) (retain_keeps t)
step_keeps (do_scan q) = by_doing (do_scan q) (scan_keeps q)
step_keeps (do_page q) = by_doing (do_page q) (page_keeps q)
step_keeps do_status = by_doing do_status status_keeps
step_keeps (do_deltas p) = by_doing (do_deltas p) (deltas_keep p)
step_keeps do_reopen = reopen_keeps
