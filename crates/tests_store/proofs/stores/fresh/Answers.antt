use Rattle.std.proofs.Common.{◌≡◌, List, [], ◌∷◌, refl, subst, sym}
use Rattle.lt_storage.specs.Store.{IsLawfulManifest}
use Rattle.lt_tables.specs.Schema.IsCatalogue.{nothing_yet}
use Rattle.lt_store.specs.Making.{fresh_manifest}
use Rattle.tests_store.proofs.stores.fresh.Goals as goal

lawful : IsLawfulManifest (fresh_manifest 1048576 ([] ∷ []))
lawful = record {
  limit = refl;
  numbers = refl;
  catalogue = nothing_yet;
  streams = refl;
  parts = refl;
  deltas = refl;
}

-- src/stores.rt:19:5
pub make-requires : goal.make-requires
make-requires c = record { lawful = subst (λ low. IsLawfulManifest (fresh_manifest 1048576 (low ∷ []))) (sym c.new.ensures) lawful }
