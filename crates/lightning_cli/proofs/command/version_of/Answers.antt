use Rattle.lightning_cli.proofs.CommandLaws.{read_none}
use Rattle.lightning_cli.proofs.command.version_of.Goals as goal

pub returns-in_default : goal.returns-in_default
returns-in_default c = read_none c.args.catalogue.now c.args.command.now c.in_default.not-Scan c.in_default.not-Page
