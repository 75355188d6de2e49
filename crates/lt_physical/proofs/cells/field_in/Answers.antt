use Rattle.std.proofs.Common.{ap, sym, ◌∙◌}
use Rattle.lt_terms.specs.Layout.{field_of}
use Rattle.lt_core.specs.View.{view_settings, view_value}
use Rattle.lt_core.proofs.ViewLaws.{view_struct}
use Rattle.lt_physical.proofs.Found.{found_at}
use Rattle.lt_physical.proofs.cells.field_in.Goals as goal

pub returns-in-Struct : goal.returns-in-Struct
returns-in-Struct c =
    found_at c.setting_of.result c.args.number (view_settings c.in-Struct.fields) c.setting_of.ensures
    ∙ sym (ap (field_of c.args.number) (ap view_value c.in-Struct.is ∙ view_struct c.in-Struct.fields))
