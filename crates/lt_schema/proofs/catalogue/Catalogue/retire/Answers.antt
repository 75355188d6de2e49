use Rattle.std.proofs.Common.{ap, subst, sym, ◌∙◌}
use Rattle.lt_tables.specs.Schema.{IsCatalogue, after_retiring, retire_fault}
use Rattle.lt_schema.proofs.catalogue.Catalogue.retire.Goals as goal

pub invariant_of-self : goal.invariant_of-self
invariant_of-self c =
    let cat = c.self.inside.tables.items in
    let none = ap (λ ts. retire_fault ts c.args.number c.args.version) c.self.view_is ∙ c.in_ok-test_retiring.ensures.fault in
    record { lawful = subst IsCatalogue (sym c.retire_version.ensures) (after_retiring cat c.args.number c.args.version c.self.invariant.lawful none); null = c.self.invariant.null }
