use Rattle.lt_script.proofs.JobLaws.{one_mode_none}
use Rattle.lt_script.proofs.jobs.one_mode.Goals as goal

pub returns-in_default : goal.returns-in_default
returns-in_default c = one_mode_none c.args.word.now c.requires.alone c.in_default.not-major
