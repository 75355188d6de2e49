use Rattle.std.proofs.Common.{subst, sym}
use Rattle.lt_storage.specs.Store.{IsLawfulManifest}
use Rattle.lt_store.proofs.making.first_bytes.Goals as goal

pub write-requires : goal.write-requires
write-requires c = subst IsLawfulManifest (sym c.in_ok-manifest.ensures) c.requires
