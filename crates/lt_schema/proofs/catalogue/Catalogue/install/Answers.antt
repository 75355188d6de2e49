use Rattle.std.proofs.Common.{ap, ◌∙◌}
use Rattle.lt_tables.specs.Schema.{schema_fault}
use Rattle.lt_schema.specs.View.{view_version}
use Rattle.lt_schema.proofs.NextLaws.{next_of, stays_lawful}
use Rattle.lt_schema.proofs.catalogue.Catalogue.install.Goals as goal

pub put_version-requires : goal.put_version-requires
put_version-requires c =
    let v = view_version c.args.version in
    next_of c.self.inside.tables.items v c.self.invariant.lawful (ap (λ cat. schema_fault cat v) c.self.view_is ∙ c.requires)

pub invariant_of-self : goal.invariant_of-self
invariant_of-self c =
    let cat = c.self.inside.tables.items in
    let v = view_version c.args.version in
    let none = ap (λ ts. schema_fault ts v) c.self.view_is ∙ c.requires in
    record { lawful = stays_lawful c.put_version.result cat c.put_version.new.tables.items v c.self.invariant.lawful none c.put_version.ensures.ok c.put_version.ensures.err; null = c.self.invariant.null }
