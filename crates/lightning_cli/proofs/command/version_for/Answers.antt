use Rattle.std.proofs.Common.{Some, ap, ◌∙◌}
use Rattle.lt_schema.specs.View.{view_version}
use Rattle.lightning_cli.proofs.CommandLaws.{read_named, read_unnamed}
use Rattle.lightning_cli.proofs.command.version_for.Goals as goal

pub returns-in_default : goal.returns-in_default
returns-in_default c = read_unnamed c.args.catalogue.now c.args.query.now.table c.as_slice.result.now c.args.query.now.version c.as_slice.ensures.bytes c.in_default.ensures

pub returns-in_ok-copy-in-Some-get : goal.returns-in_ok-copy-in-Some-get
returns-in_ok-copy-in-Some-get c =
    ap (λ v. Some (view_version v)) c.in_ok-copy-in-Some-get.ensures ∙ c.in-Some-get.ensures.version
    ∙ read_named c.args.catalogue.now c.args.query.now.table c.as_slice.result.now c.args.query.now.version c.in-Some.number c.as_slice.ensures.bytes c.get.ensures.lawful c.in-Some.ensures

pub returns-in-None : goal.returns-in-None
returns-in-None c =
    c.in-None.ensures.version
    ∙ read_named c.args.catalogue.now c.args.query.now.table c.as_slice.result.now c.args.query.now.version c.in-Some.number c.as_slice.ensures.bytes c.get.ensures.lawful c.in-Some.ensures
