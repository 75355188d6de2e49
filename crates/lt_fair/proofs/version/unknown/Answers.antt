use Rattle.std.proofs.Common.{ap, is_some, sym, ◌∙◌}
use Rattle.lt_schema.specs.View.{view_version}
use Rattle.lt_fair.proofs.FirstVersions.{is_some-copied, unknown_table}
use Rattle.lt_fair.proofs.version.unknown.Goals as goal

pub returns-else-is_some : goal.returns-else-is_some
returns-else-is_some c = unknown_table c.args.cat.now c.args.table c.args.version c.get.ensures.lawful
    (sym (ap is_some c.get.ensures.version) ∙ is_some-copied view_version c.get.result ∙ sym c.is_some.ensures ∙ c.if-is_some.false)
