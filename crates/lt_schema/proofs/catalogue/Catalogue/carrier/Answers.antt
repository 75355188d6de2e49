use Rattle.std.proofs.Common.{ap, map, ◌∙◌, ◌≡◌}
use Rattle.lt_tables.specs.Schema.{versions_of}
use Rattle.lt_schema.specs.Tables.{view_registered}
use Rattle.lt_schema.proofs.TableLists.{carrier_is}
use Rattle.lt_schema.proofs.catalogue.Catalogue.carrier.Goals as goal

pub returns : goal.returns
returns c =
    let same : map view_registered c.versions_of.result.now ≡ versions_of c.args.self.now c.args.number = c.versions_of.ensures ∙ ap (λ ts. versions_of ts c.args.number) (c.deref.ensures.value ∙ c.self.view_is) in
    rw (carrier_is c.args.self.now c.args.number c.args.column, ← same) c.carrier_of.ensures
