-- The first damage is damage, so on a sound image none shows.
use Rattle.std.proofs.Common.{List, Option, Some, arith, inl, inr, refl, subst, sym, ℕ, ◌∷◌}
use Rattle.std.specs.Prelude.{Contains, Err, IfErr, IfSome, Ok, Result}
use Rattle.lt_terms.specs.declared.Extent.{Extent}
use Rattle.lt_world.specs.Feed.{Feed}
use Rattle.lt_storage.specs.Store.{Manifest}
use Rattle.lt_machine.specs.Run.{IsDamaged}
use Rattle.lt_machine.specs.Sound.{IsSound}
use Rattle.lt_disk.proofs.Moments.{where_told}
use Rattle.lt_laws.proofs.ListFacts.{contains_rest}
use Rattle.lt_image_laws.proofs.Damage.{damage_shows, sound_shows_none}
use Rattle.lt_store.specs.Opening.{IsFirstBadIndex, IsFirstDamage, IsNoDamage, NamesDamage, RefusesOpening, in_index, in_manifest, in_places, in_slots}
use Rattle.lt_store.specs.declared.refusal.OpenRefusal.{OpenRefusal}
use Rattle.lt_store.specs.declared.refusal.OpenRefusal.TheVariants as refusals

-- the delta of a bad index
its_delta : (image : List ℕ) (m : Manifest) (e : Extent) (bad : IsFirstBadIndex image m e) → Contains m.deltas (bad.id, e)
its_delta image m e bad = subst (λ ds. Contains ds (bad.id, e)) (sym bad.deltas) (contains_rest bad.before ((bad.id, e) ∷ bad.after) (bad.id, e) (0, omega arith, refl))

first_is_damage : (image : List ℕ) (e : Extent) → IsFirstDamage image e → IsDamaged image e
first_is_damage image e (in_slots damage) = damage_shows.slot image e damage
first_is_damage image e (in_manifest r counts named bad) = subst (IsDamaged image) (sym named) (damage_shows.manifest image r counts bad)
first_is_damage image e (in_index r m has bad) = elim bad.bad [
  | inl behind ↦ damage_shows.beyond image r m (bad.id, e) has.0 (its_delta image m e bad) behind
  | inr unknown ↦ damage_shows.index image r m (bad.id, e) has.0 (its_delta image m e bad) unknown
]
first_is_damage image e (in_places r m has bad) = damage_shows.extent image r m bad.indexes e has.0 bad.read_all bad.misplaced

names_damage : (image : List ℕ) (e : OpenRefusal) → RefusesOpening (Some image) e → NamesDamage image e
names_damage image refusals.NoStore refused = tt
names_damage image (refusals.Damaged place len) refused = first_is_damage image (record { place = place; length = len }) refused
names_damage image refusals.Unsynced refused = tt
names_damage image refusals.Unread refused = tt
names_damage image refusals.Memory refused = tt

pub names : {A : Type 0} (told : Option (List ℕ)) (r : Result A OpenRefusal) → IfErr r (RefusesOpening told) → IfErr r (λ e. IfSome told (λ image. NamesDamage image e))
names told (Ok x) refused = tt
names told (Err e) refused = where_told told _ (λ image tells. names_damage image e (subst (λ o. RefusesOpening o e) tells refused))

pub complete : (image : List ℕ) (f : Feed) (e : OpenRefusal) → IsSound image f → RefusesOpening (Some image) e → IsNoDamage e
complete image f refusals.NoStore sound refused = sound_shows_none.a_store f image sound refused
complete image f (refusals.Damaged place len) sound refused = sound_shows_none.undamaged f image (record { place = place; length = len }) sound (inl (first_is_damage image (record { place = place; length = len }) refused))
complete image f refusals.Unsynced sound refused = tt
complete image f refusals.Unread sound refused = tt
complete image f refusals.Memory sound refused = tt

pub completes : {A : Type 0} (told : Option (List ℕ)) (r : Result A OpenRefusal) → IfErr r (RefusesOpening told) → IfErr r (λ e. IfSome told (λ image. (f : Feed) → IsSound image f → IsNoDamage e))
completes told (Ok x) refused = tt
completes told (Err e) refused = where_told told _ (λ image tells f sound. complete image f e sound (subst (λ o. RefusesOpening o e) tells refused))
