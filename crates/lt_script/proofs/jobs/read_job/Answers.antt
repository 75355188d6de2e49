use Rattle.lt_script.proofs.JobLaws.{job_other}
use Rattle.lt_script.proofs.jobs.read_job.Goals as goal

pub returns-in_default-verb : goal.returns-in_default-verb
returns-in_default-verb c = job_other c.args.rest.now c.in-Some.verb.now c.in-Some.rest.now c.in-Some.ensures.parted c.in_default-verb.not-begin c.in_default-verb.not-step
