use Rattle.std.proofs.Common.{ap, arith, length, sym, ◌∙◌, ◌≡◌, ◌≤◌}
use Rattle.std.proofs.lemmas.List.{length-map}
use Rattle.lt_tables.specs.Schema.{versions_of}
use Rattle.lt_schema.specs.Tables.{view_registered}
use Rattle.lt_schema.proofs.NextLaws.{few_versions}
use Rattle.lt_schema.proofs.catalogue.Catalogue.test_among.Goals as goal

pub overflow_cast-expected : goal.overflow_cast-expected
overflow_cast-expected c =
    let versions = c.versions_of.result.now in
    let few : length (versions_of c.self.inside.tables.items c.args.version.now.number) ≤ 256 = few_versions c.self.inside.tables.items c.args.version.now.number c.self.invariant.lawful in
    let count : length versions ≡ length (versions_of c.self.inside.tables.items c.args.version.now.number) = sym (length-map versions view_registered) ∙ ap length (c.versions_of.ensures ∙ ap (λ ts. versions_of ts c.args.version.now.number) c.deref-2.ensures.value) in
    omega (arith, few, count)

pub overflow_add-expected : goal.overflow_add-expected
overflow_add-expected c =
    let versions = c.versions_of.result.now in
    let few : length (versions_of c.self.inside.tables.items c.args.version.now.number) ≤ 256 = few_versions c.self.inside.tables.items c.args.version.now.number c.self.invariant.lawful in
    let count : length versions ≡ length (versions_of c.self.inside.tables.items c.args.version.now.number) = sym (length-map versions view_registered) ∙ ap length (c.versions_of.ensures ∙ ap (λ ts. versions_of ts c.args.version.now.number) c.deref-2.ensures.value) in
    omega (arith, few, count)
