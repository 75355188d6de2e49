use Rattle.lt_script.proofs.JobLaws.{job_whole}
use Rattle.lt_script.proofs.jobs.one_verb.Goals as goal

pub returns-in_default : goal.returns-in_default
returns-in_default c = job_whole c.args.word.now c.requires.alone c.in_default.not-finish c.in_default.not-drop
