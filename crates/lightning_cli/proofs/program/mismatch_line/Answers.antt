use Rattle.std.proofs.Common.{sym, ◌∙◌}
use Rattle.lightning_cli.proofs.ProgramLaws.{mismatch_is}
use Rattle.lightning_cli.proofs.program.mismatch_line.Goals as goal

pub returns : goal.returns
returns c = c.in_ok-format.ensures.ok ∙ sym (mismatch_is c.args.stream)
