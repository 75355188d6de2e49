use Rattle.std.proofs.Common.{sym}
use Rattle.lt_script.proofs.LineLaws.{whole_read}
use Rattle.lt_script.proofs.command.one_word.Goals as goal

pub returns-in_default : goal.returns-in_default
returns-in_default c = sym (whole_read c.args.word.now c.requires.alone c.in_default.not-status c.in_default.not-reopen)
