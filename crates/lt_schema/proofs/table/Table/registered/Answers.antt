use Rattle.std.proofs.Common.{ap, arith, suc, sym, ◌∙◌, ◌≡◌}
use Rattle.std.specs.Prelude.{option_map, slice_get}
use Rattle.lt_tables.specs.Schema.{registered}
use Rattle.lt_schema.specs.Tables.{view_registered}
use Rattle.lt_schema.proofs.Versions.{registered_is, whole_is}
use Rattle.lt_schema.proofs.table.Table.registered.Goals as goal

pub returns-clause-found : goal.returns-clause-found
returns-clause-found c =
    let place = c.in_ok-place.place in
    let next : c.args.version ≡ suc place = omega (arith, c.in_ok-place.ensures) in
    ap (option_map view_registered) (c.at.ensures ∙ ap (λ rs. slice_get rs place) c.deref.ensures.value)
    ∙ sym (registered_is c.self.inside c.args.version place next) ∙ ap (λ t. registered t c.args.version) c.self.view_is

pub returns-clause-whole : goal.returns-clause-whole
returns-clause-whole c =
    let place = c.in_ok-place.place in
    let next : c.args.version ≡ suc place = omega (arith, c.in_ok-place.ensures) in
    let got = c.at.ensures ∙ ap (λ rs. slice_get rs place) c.deref.ensures.value in
    rw (← c.self.view_is) (whole_is c.self.inside c.args.version place c.at.result c.self.invariant next got)
