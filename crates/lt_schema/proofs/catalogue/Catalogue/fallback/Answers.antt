use Rattle.std.proofs.Common.{ap, map, sym, ◌∙◌, ◌≡◌}
use Rattle.std.specs.Option.{option_copied}
use Rattle.std.specs.Prelude.{option_map, unwrap_or}
use Rattle.lt_core.specs.View.{view_value}
use Rattle.lt_terms.specs.Value.{null_value}
use Rattle.lt_tables.specs.Schema.{Column, versions_of}
use Rattle.lt_schema.specs.Lookups.{declared}
use Rattle.lt_schema.specs.Tables.{view_registered}
use Rattle.lt_schema.proofs.TableLists.{fallback_is}
use Rattle.lt_schema.proofs.catalogue.Catalogue.fallback.Goals as goal

pub returns-in_err-declared : goal.returns-in_err-declared
returns-in_err-declared c =
    let same : map view_registered c.versions_of.result.now ≡ versions_of c.args.self.now c.args.number = c.versions_of.ensures ∙ ap (λ ts. versions_of ts c.args.number) (c.deref.ensures.value ∙ c.self.view_is) in
    ap (λ o. option_map view_value (option_copied o)) c.from_residual.ensures
    ∙ ap (option_map (λ (k : Column). unwrap_or k.fallback null_value)) (c.in_err-declared.ensures ∙ ap (λ rs. declared rs c.args.column) same)
    ∙ sym (fallback_is c.args.self.now c.args.number c.args.column)
