-- Entries that rise.
use Rattle.std.proofs.Common.{List, ap, refl, ◌∷◌, [], ◌≡◌}
use Rattle.std.specs.Prelude.{◌&&◌}
use Rattle.lt_terms.specs.Key.{below}
use Rattle.lt_storage.specs.Store.{BundleEntry, entries_rise}
use Rattle.lt_delta.specs.Entries.{rises_from}

pub rise_behind : (e : BundleEntry) (es : List BundleEntry) → rises_from e.last es ≡ entries_rise (e ∷ es)
rise_behind e [] = refl
rise_behind e (f ∷ es) = ap (λ b. below e.last f.first && b) (rise_behind f es)
