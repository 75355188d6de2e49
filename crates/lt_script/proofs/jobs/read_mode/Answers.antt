use Rattle.lt_script.proofs.JobLaws.{mode_other}
use Rattle.lt_script.proofs.jobs.read_mode.Goals as goal

pub returns-in_default-word : goal.returns-in_default-word
returns-in_default-word c = mode_other c.args.text.now c.in-Some.word.now c.in-Some.rest.now c.in-Some.ensures.parted c.in_default-word.not-minor
