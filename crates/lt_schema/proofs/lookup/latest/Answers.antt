use Rattle.std.proofs.Common.{ap, sym, ◌∙◌}
use Rattle.lt_schema.specs.View.{view_columns}
use Rattle.lt_schema.proofs.Versions.{latest_is}
use Rattle.lt_schema.proofs.lookup.latest.Goals as goal

pub returns-in-Some : goal.returns-in-Some
returns-in-Some c = ap view_columns c.as_slice.ensures ∙ sym (latest_is c.args.versions.now c.in-Some.registered.now (sym c.in-Some.ensures.value))
