use Rattle.std.proofs.Common.{ap, sym, ◌∙◌}
use Rattle.std.specs.Prelude.{None, Option, Some}
use Rattle.std.specs.Option.{option_map_or}
use Rattle.lt_core.specs.View.{view_kind, view_value}
use Rattle.lt_terms.specs.Conversion.{conv}
use Rattle.lt_terms.specs.Value.{Value}
use Rattle.lt_rows.proofs.MapViews.{if_ok, set_found}
use Rattle.lt_rows.proofs.reading.read_column.Goals as goal

pub returns-in-Some : goal.returns-in-Some
returns-in-Some c =
    let r = c.args.reading.now in
    let e = set_found r.number c.args.set.now.entries (Some c.in-Some.value.now) (sym c.in-Some.ensures.value) in
    if_ok c.convert.result (λ v h. h ∙ sym (ap (λ (o : Option Value). option_map_or (λ v. conv v (view_kind r.kind.now)) o (view_value r.default)) e)) c.convert.ensures

pub returns-in-None : goal.returns-in-None
returns-in-None c =
    let r = c.args.reading.now in
    let e = set_found r.number c.args.set.now.entries None (sym c.in-None.ensures.value) in
    if_ok c.copy.result (λ v h. ap view_value h ∙ sym (ap (λ (o : Option Value). option_map_or (λ v. conv v (view_kind r.kind.now)) o (view_value r.default)) e)) c.copy.ensures
