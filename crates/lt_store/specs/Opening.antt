-- What an opening reads, and why a store is not opened.
use Rattle.std.specs.Prelude.{Contains, IfErr, IfOk, IfSome, List, Option, [], false, map, true, ⊤, ℕ, ◌++◌, ◌-◌, ◌<◌, ◌∷◌, ◌≡◌, ◌≤◌, ◌⊎◌}
use Rattle.std.specs.List.{AllByRecursion}
use Rattle.std.specs.declared.result.Result.{Result}
use Rattle.std.specs.declared.result.Result.TheVariants.{Err, Ok}
use Rattle.lt_terms.specs.declared.Extent.{Extent}
use Rattle.lt_terms.specs.declared.Root.{Root}
use Rattle.lt_world.specs.Disk.{DiskGoes, DiskState, HasCause, LeftOnly, bytes_in}
use Rattle.lt_world.specs.Extents.{IsMisplaced, end_of}
use Rattle.lt_world.specs.Slots.{CountsAsRoot, HasNoStore, IsDamagedSlot}
use Rattle.lt_storage.specs.Store.{IsIndex, IsLawfulManifest, IsManifest, Manifest, Placing, TableIndex, root_extent}
use Rattle.lt_machine.specs.Program.{IsOpened, OpensIn, ReadsAll}
use Rattle.lt_machine.specs.Run.{IsDamaged, is_known_index}
use Rattle.lt_image_laws.specs.Opening.{HasManifest, named_extents}
use Rattle.lt_root.specs.declared.refusal.RootRefusal.{RootRefusal}
use Rattle.lt_root.specs.declared.refusal.RootRefusal.TheVariants as of_root
use Rattle.lt_space.specs.Extents.{IsOverlap}
use Rattle.lt_delta.specs.Reading.{IsLawful}
use Rattle.lt_delta.specs.View.{view_index}
use Rattle.lt_delta.specs.declared.refusal.DeltaRefusal.{DeltaRefusal}
use Rattle.lt_delta.specs.declared.refusal.DeltaRefusal.TheVariants as of_delta
use Rattle.lt_manifest.specs.View.{view_manifest}
use Rattle.lt_manifest.specs.declared.stored.Manifest as code
use Rattle.lt_store.specs.Standing.{StandsAt}
use Rattle.lt_store.specs.declared.opening.Opened.{Opened}
use Rattle.lt_store.specs.declared.refusal.OpenRefusal.{OpenRefusal}
use Rattle.lt_store.specs.declared.refusal.OpenRefusal.TheVariants as refusals

-- where the opened store's parts stand, as they were read
abbrev pub placing_read : Opened → Placing
placing_read o = record { root = o.store.root; manifest = view_manifest o.manifest; indexes = map view_index o.indexes.items }

-- ---- the first damage

-- no manifest stands behind the root, or the one that does ends behind its own limit
abbrev pub HasBadManifest : List ℕ → Root → Type 0
HasBadManifest image r = (m : Manifest) → IsManifest m (bytes_in image (root_extent r)) → m.limit < end_of (root_extent r)

-- no index that the catalogue knows stands there, or it ends behind the limit
abbrev pub HasBadIndex : List ℕ → Manifest → Extent → Type 0
HasBadIndex image m at = (m.limit < end_of at) ⊎ ((i : List TableIndex) → IsIndex i (bytes_in image at) → is_known_index m.catalogue i ≡ true → ⊥)

-- the index of the first delta that has a bad one
pub record IsFirstBadIndex (image : List ℕ) (m : Manifest) (e : Extent) : Type 0 where
  pub before : List (ℕ × Extent)
  pub id : ℕ
  pub after : List (ℕ × Extent)
  pub deltas : m.deltas ≡ before ++ (id, e) ∷ after
  pub indexes : List (List TableIndex)
  pub read_before : ReadsAll image m.catalogue before indexes
  pub bad : HasBadIndex image m e

-- of what is misplaced the one with the least place, where all was read
pub record IsLeastMisplaced (image : List ℕ) (r : Root) (m : Manifest) (e : Extent) : Type 0 where
  pub indexes : List (List TableIndex)
  pub read_all : ReadsAll image m.catalogue m.deltas indexes
  pub misplaced : IsMisplaced m.limit (named_extents r m indexes) e
  pub least : (x : Extent) → IsMisplaced m.limit (named_extents r m indexes) x → e.place ≤ x.place

-- the manifest that counts, which ends within its own limit
abbrev pub FitsManifest : List ℕ → Root → Manifest → Type 0
FitsManifest image r m = HasManifest image r m × (end_of (root_extent r) ≤ m.limit)

-- the first damage that an opening finds: in the slots, in the manifest, in the indexes in their order, or in where all that stands
pub data IsFirstDamage (image : List ℕ) (e : Extent) : Type 0 where
  in_slots : IsDamagedSlot image e → IsFirstDamage image e
  in_manifest : (r : Root) → CountsAsRoot image r → e ≡ root_extent r → HasBadManifest image r → IsFirstDamage image e
  in_index : (r : Root) (m : Manifest) → FitsManifest image r m → IsFirstBadIndex image m e → IsFirstDamage image e
  in_places : (r : Root) (m : Manifest) → FitsManifest image r m → IsLeastMisplaced image r m e → IsFirstDamage image e

-- why a store is not opened; a fault of the disk has its cause in the disk's counts, and out of memory is always allowed
abbrev pub RefusesOpening : Option (List ℕ) → OpenRefusal → Type 0
RefusesOpening told refusals.NoStore = IfSome told HasNoStore
RefusesOpening told (refusals.Damaged place len) = IfSome told (λ image. IsFirstDamage image (record { place = place; length = len }))
RefusesOpening told refusals.Unsynced = ⊤
RefusesOpening told refusals.Unread = ⊤
RefusesOpening told refusals.Memory = ⊤

-- the damage that a refusal names is there
abbrev pub NamesDamage : List ℕ → OpenRefusal → Type 0
NamesDamage image refusals.NoStore = ⊤
NamesDamage image (refusals.Damaged place len) = IsDamaged image (record { place = place; length = len })
NamesDamage image refusals.Unsynced = ⊤
NamesDamage image refusals.Unread = ⊤
NamesDamage image refusals.Memory = ⊤

-- a refusal by the disk or by memory
abbrev pub IsNoDamage : OpenRefusal → Type 0
IsNoDamage refusals.NoStore = ⊥
IsNoDamage (refusals.Damaged place len) = ⊥
IsNoDamage refusals.Unsynced = ⊤
IsNoDamage refusals.Unread = ⊤
IsNoDamage refusals.Memory = ⊤

-- an answer as that of a call of the disk: only a fault of the disk is an error there
abbrev pub of_disk : {A : Type 0} → Result A OpenRefusal → Result (Unit {0}) (Unit {0})
of_disk (Ok x) = Ok tt
of_disk (Err refusals.NoStore) = Ok tt
of_disk (Err (refusals.Damaged place len)) = Ok tt
of_disk (Err refusals.Unsynced) = Err tt
of_disk (Err refusals.Unread) = Err tt
of_disk (Err refusals.Memory) = Ok tt

-- the same of a sync
abbrev pub of_sync : {A : Type 0} → Result A OpenRefusal → Result (Unit {0}) (Unit {0})
of_sync (Ok x) = Ok tt
of_sync (Err refusals.NoStore) = Ok tt
of_sync (Err (refusals.Damaged place len)) = Ok tt
of_sync (Err refusals.Unsynced) = Err tt
of_sync (Err refusals.Unread) = Ok tt
of_sync (Err refusals.Memory) = Ok tt

-- ---- the steps of an opening

abbrev pub refusal_of_root : RootRefusal → OpenRefusal
refusal_of_root of_root.NoStore = refusals.NoStore
refusal_of_root (of_root.Damaged place len) = refusals.Damaged place len
refusal_of_root of_root.Disk = refusals.Unread

-- no reading takes a gap
abbrev pub refusal_of_delta : DeltaRefusal → OpenRefusal
refusal_of_delta of_delta.Disk = refusals.Unread
refusal_of_delta (of_delta.Damaged place len) = refusals.Damaged place len
refusal_of_delta (of_delta.StoreFull need room) = refusals.Memory
refusal_of_delta of_delta.Memory = refusals.Memory

-- why a step behind the root refuses: by this damage, by a read that failed, or out of memory
abbrev pub RefusesStep : (Extent → Type 0) → OpenRefusal → Type 0
RefusesStep Damage refusals.NoStore = ⊥
RefusesStep Damage (refusals.Damaged place len) = Damage (record { place = place; length = len })
RefusesStep Damage refusals.Unsynced = ⊥
RefusesStep Damage refusals.Unread = ⊤
RefusesStep Damage refusals.Memory = ⊤

-- no good manifest stands behind the root
pub record HurtsManifest (told : Option (List ℕ)) (r : Root) (e : Extent) : Type 0 where
  pub named : e ≡ root_extent r
  pub bad : IfSome told (λ image. HasBadManifest image r)

-- a manifest that stands behind the root, and ends within its own limit
abbrev pub ReadsManifest : List ℕ → Root → code.Manifest → Type 0
ReadsManifest image r m = IsManifest (view_manifest m) (bytes_in image (root_extent r)) × (end_of (root_extent r) ≤ m.limit)

-- no good index stands there
pub record HurtsIndex (told : Option (List ℕ)) (m : Manifest) (at e : Extent) : Type 0 where
  pub named : e ≡ at
  pub bad : IfSome told (λ image. HasBadIndex image m at)

-- some index is the first that is no good one
abbrev pub HurtsIndexes : Option (List ℕ) → Manifest → Extent → Type 0
HurtsIndexes told m e = IfSome told (λ image. IsFirstBadIndex image m e)

-- of these extents the first that stands where the least misplaced one does
pub record MeetsFirst (limit : ℕ) (live : List Extent) (e : Extent) : Type 0 where
  pub there : Contains live e
  pub overlap : IsOverlap limit live e.place

-- what the opening of a synced disk answers, and leaves of it
pub record OpensSynced (old new : DiskState) (result : Result Opened OpenRefusal) : Type 0 where
  pub opened : IfOk result (λ o. IfSome old.told (λ image. IsOpened image (placing_read o)))
  pub stands : IfOk result (λ o. StandsAt o.store (placing_read o) [])
  pub whole : IfOk result (λ o. o.store.broken ≡ false)
  pub lawful : IfOk result (λ o. IsLawfulManifest (view_manifest o.manifest) × AllByRecursion IsLawful (placing_read o).indexes)
  pub refused : IfErr result (RefusesOpening old.told)
  pub images : LeftOnly old new old.leaves
  pub told : new.told ≡ old.told
  pub reads : IfSome old.told (λ image. OpensIn image (new.reads - old.reads))
  pub goes : DiskGoes old new
  pub cause : HasCause old.faults new.faults (of_disk result)
  pub written : HasCause old.write_faults new.write_faults (of_sync result)
