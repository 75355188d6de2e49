use Rattle.std.proofs.Common.{refl, subst, sym}
use Rattle.lt_tables.specs.Schema.{IsCatalogue, nothing_yet}
use Rattle.lt_schema.proofs.catalogue.Catalogue.new.Goals as goal

pub invariant_of-result : goal.invariant_of-result
invariant_of-result c = record { lawful = subst IsCatalogue (sym c.new.ensures.items) nothing_yet; null = refl }
