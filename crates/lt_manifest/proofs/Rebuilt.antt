-- The catalogue that was made, or none.
use Rattle.std.proofs.Common.{Bool, None, Some, [], ap, false, subst, sym, true, ◌∙◌, ◌≡◌}
use Rattle.std.specs.Prelude.{IsTrue}
use Rattle.std.proofs.lemmas.Bool.{false≢true}
use Rattle.lt_tables.specs.Schema.{Catalogue, IsCatalogue}
use Rattle.lt_image_laws.specs.Rebuild.{are_in_turn, rebuilds}
use Rattle.lt_image_laws.proofs.Rebuilding.{rebuilt}
use Rattle.lt_manifest.specs.Reading.{Makes}

pub out_of_turn : (ts : Catalogue) → are_in_turn ts ≡ false → IsCatalogue ts → ⊥
out_of_turn ts e is = false≢true (sym e ∙ rebuilt.in_turn ts is)

pub not_made : (ts cat start : Catalogue) (b : Bool) → start ≡ [] → b ≡ false → Makes b cat (rebuilds ts start) → IsCatalogue ts → ⊥
not_made ts cat start true e off none is = cc
not_made ts cat start false e off none is = some_none ts (sym (rebuilt.lawful ts is) ∙ ap (rebuilds ts) (sym e) ∙ none)
  where
    some_none : (c : Catalogue) → Some c ≡ None → ⊥
    some_none c e = cc

pub made : (ts cat start : Catalogue) (b : Bool) → start ≡ [] → b ≡ true → IsTrue (are_in_turn ts) → Makes b cat (rebuilds ts start) → (cat ≡ ts) × IsCatalogue ts
made ts cat start false e on turn m = cc
made ts cat start true e on turn m =
    let again : rebuilds ts [] ≡ Some cat = ap (rebuilds ts) (sym e) ∙ m in
    let same : cat ≡ ts = rebuilt.same ts cat turn again in
    (same, subst IsCatalogue same (rebuilt.only_lawful ts cat again))
