use Rattle.std.proofs.Common.{sym, ◌∙◌}
use Rattle.lightning_cli.proofs.ProgramLaws.{damaged_is}
use Rattle.lightning_cli.proofs.program.damage_line.Goals as goal

pub returns : goal.returns
returns c = c.in_ok-format.ensures.ok ∙ sym (damaged_is c.args.place c.args.length)
