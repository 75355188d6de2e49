-- What an opening answers where one of its steps refuses, and where none does.
use Rattle.std.proofs.Common.{false, List, Option, ap, arith, inl, inr, length, refl, subst, sym, ℕ, ◌+◌, ◌-◌, ◌∙◌, ◌≡◌, ◌≤◌}
use Rattle.std.specs.Prelude.{Err, IfSome, IsTrue, Ok, Result, map}
use Rattle.std.specs.Result.{IsErrAnd}
use Rattle.std.specs.List.{AllByRecursion}
use Rattle.std.specs.List.Sorted.{IsPermutation}
use Rattle.std.proofs.lemmas.List.{append-nil, length-map}
use Rattle.lt_terms.specs.declared.Extent.{Extent}
use Rattle.lt_terms.specs.declared.Root.{Root}
use Rattle.lt_world.specs.Disk.{DiskState, HasCause}
use Rattle.lt_world.specs.Extents.{are_apart}
use Rattle.lt_world.specs.Slots.{CountsAsRoot}
use Rattle.lt_storage.specs.Store as store
use Rattle.lt_storage.specs.Store.{IsLawfulManifest, IsManifest, root_extent}
use Rattle.lt_machine.specs.Program.{OpensIn, ReadsAll}
use Rattle.lt_disk.proofs.Moments.{Device, told_at, where_told}
use Rattle.lt_root.specs.Roots as roots
use Rattle.lt_root.specs.Roots.{RefusesRoot}
use Rattle.lt_root.specs.declared.refusal.RootRefusal.{RootRefusal}
use Rattle.lt_root.specs.declared.refusal.RootRefusal.TheVariants as of_root
use Rattle.lt_image_laws.specs.Opening.{named_extents}
use Rattle.lt_image_laws.proofs.Damage.{damage_shows}
use Rattle.lt_delta.specs.Reading.{IsLawful}
use Rattle.lt_delta.specs.View.{view_index}
use Rattle.lt_delta.specs.declared.index.DeltaIndex.{DeltaIndex}
use Rattle.lt_manifest.specs.View.{view_delta, view_manifest}
use Rattle.lt_manifest.specs.declared.stored.Manifest.{Manifest}
use Rattle.lt_store.specs.Looking.{LooksOnly}
use Rattle.lt_store.specs.Opening.{FitsManifest, HurtsIndexes, HurtsManifest, IsFirstDamage, IsLeastMisplaced, MeetsFirst, OpensSynced, ReadsManifest, RefusesOpening, RefusesStep, in_index, in_manifest, in_places, in_slots, of_disk, of_sync, refusal_of_root}
use Rattle.lt_store.specs.declared.opening.Opened.{Opened}
use Rattle.lt_store.specs.declared.refusal.OpenRefusal.{OpenRefusal}
use Rattle.lt_store.specs.declared.refusal.OpenRefusal.TheVariants as refusals
use Rattle.lt_store.proofs.Looking.{looks_on}

-- ---- errors

pub is_error : {T E : Type 0} (r : Result T E) (e : E) → IsErrAnd r (λ x. x ≡ e) → r ≡ Err e
is_error (Ok x) e is = absurd is
is_error (Err x) e is = ap Err is

-- a fault behind calls that succeeded
cause_on : (A B : Type 0) (before mid now : ℕ) (e : OpenRefusal) → mid ≡ before → HasCause mid now (of_disk {A = A} (Err e)) → HasCause before now (of_disk {A = B} (Err e))
cause_on A B before mid now refusals.NoStore same cause = subst (λ n. HasCause n now (of_disk {A = B} (Err refusals.NoStore))) same cause
cause_on A B before mid now (refusals.Damaged place len) same cause = subst (λ n. HasCause n now (of_disk {A = B} (Err (refusals.Damaged place len)))) same cause
cause_on A B before mid now refusals.Unsynced same cause = subst (λ n. HasCause n now (of_disk {A = B} (Err refusals.Unsynced))) same cause
cause_on A B before mid now refusals.Unread same cause = subst (λ n. HasCause n now (of_disk {A = B} (Err refusals.Unread))) same cause
cause_on A B before mid now refusals.Memory same cause = subst (λ n. HasCause n now (of_disk {A = B} (Err refusals.Memory))) same cause

no_cause : (before now : ℕ) (r : Result (Unit {0}) (Unit {0})) → now ≡ before → r ≡ Ok tt → HasCause before now r
no_cause before now r same is = subst (HasCause before now) (sym is) (record { later = omega (arith, same); failed = tt; kept = same })

-- no step behind the sync refuses as that does
unsynced_never : (Damage : Extent → Type 0) (e : OpenRefusal) → RefusesStep Damage e → of_sync {A = Opened} (Err e) ≡ Ok tt
unsynced_never Damage refusals.NoStore r = refl
unsynced_never Damage (refusals.Damaged place len) r = refl
unsynced_never Damage refusals.Unsynced r = absurd r
unsynced_never Damage refusals.Unread r = refl
unsynced_never Damage refusals.Memory r = refl

stopped : (n : ℕ) (old new : DiskState) (e : OpenRefusal) → LooksOnly n old new → HasCause old.faults new.faults (of_disk {A = Opened} (Err e)) → of_sync {A = Opened} (Err e) ≡ Ok tt → RefusesOpening old.told e
    → IfSome old.told (λ image. OpensIn image (new.reads - old.reads)) → OpensSynced old new (Err e)
stopped n old new e looks cause synced refused reads = record {
  opened = tt;
  stands = tt;
  whole = tt;
  lawful = tt;
  refused = refused;
  images = looks.images;
  told = looks.told;
  reads = reads;
  goes = looks.goes;
  cause = cause;
  written = no_cause old.write_faults new.write_faults (of_sync {A = Opened} (Err e)) looks.write_faults synced;
}

-- ---- how many reads

few_reads : (n : ℕ) (old new : DiskState) → n ≤ 3 → LooksOnly n old new → IfSome old.told (λ image. OpensIn image (new.reads - old.reads))
few_reads n old new few looks = where_told old.told _ (λ image tells. inl (omega (arith, few, looks.reads)))

-- one for each delta of the manifest that was read
reads_by : (old new : DiskState) (r : Root) (m : Manifest) → LooksOnly (1 + 2 + length m.deltas) old new → IfSome old.told (λ image. FitsManifest image r (view_manifest m)) → IfSome old.told (λ image. OpensIn image (new.reads - old.reads))
reads_by old new r m looks has = where_told old.told _ (λ image tells.
    let is = told_at old.told image _ tells has in
    inr (r, view_manifest m, is.0.0, is.0.1, (let few : new.reads - old.reads ≤ 3 + length (view_manifest m).deltas = omega (arith, looks.reads, length-map m.deltas view_delta) in few)))

-- ---- at the root

pub no_root : (old new : DiskState) (r : RootRefusal) → LooksOnly 1 old new → HasCause old.faults new.faults (roots.of_disk (Err r)) → IfSome old.told (λ image. RefusesRoot image r) → OpensSynced old new (Err (refusal_of_root r))
no_root old new r looks cause refused = stopped 1 old new (refusal_of_root r) looks (fault r cause) (synced r) (why r refused) (few_reads 1 old new (omega arith) looks)
  where
    fault : (r : RootRefusal) → HasCause old.faults new.faults (roots.of_disk (Err r)) → HasCause old.faults new.faults (of_disk {A = Opened} (Err (refusal_of_root r)))
    fault of_root.NoStore cause = cause
    fault (of_root.Damaged place len) cause = cause
    fault of_root.Disk cause = cause

    synced : (r : RootRefusal) → of_sync {A = Opened} (Err (refusal_of_root r)) ≡ Ok tt
    synced of_root.NoStore = refl
    synced (of_root.Damaged place len) = refl
    synced of_root.Disk = refl

    why : (r : RootRefusal) → IfSome old.told (λ image. RefusesRoot image r) → RefusesOpening old.told (refusal_of_root r)
    why of_root.NoStore refused = refused
    why (of_root.Damaged place len) refused = where_told old.told _ (λ image tells. in_slots (told_at old.told image _ tells refused))
    why of_root.Disk refused = tt

-- ---- behind the root

refuses_so : (Damage : Extent → Type 0) (told : Option (List ℕ)) (e : OpenRefusal) → ((x : Extent) → Damage x → IfSome told (λ image. IsFirstDamage image x)) → RefusesStep Damage e → RefusesOpening told e
refuses_so Damage told refusals.NoStore so r = absurd r
refuses_so Damage told (refusals.Damaged place len) so r = so (record { place = place; length = len }) r
refuses_so Damage told refusals.Unsynced so r = tt
refuses_so Damage told refusals.Unread so r = tt
refuses_so Damage told refusals.Memory so r = tt

pub no_manifest : (old mid new : DiskState) (r : Root) (e : OpenRefusal) → LooksOnly (1 + 2) old new → mid.told ≡ old.told → mid.faults ≡ old.faults → IfSome old.told (λ image. CountsAsRoot image r)
    → HasCause mid.faults new.faults (of_disk {A = Manifest} (Err e)) → RefusesStep (HurtsManifest mid.told r) e → OpensSynced old new (Err e)
no_manifest old mid new r e looks same kept root cause refused =
    stopped 3 old new e looks (cause_on Manifest Opened old.faults mid.faults new.faults e kept cause) (unsynced_never (HurtsManifest mid.told r) e refused)
    (refuses_so (HurtsManifest mid.told r) old.told e (λ x hurts. where_told old.told _ (λ image tells. in_manifest r (told_at old.told image _ tells root) hurts.named (told_at mid.told image _ (same ∙ tells) hurts.bad))) refused)
    (few_reads 3 old new (omega arith) looks)

pub no_indexes : (A : Type 0) (old mid new : DiskState) (r : Root) (m : Manifest) (e : OpenRefusal) → LooksOnly (1 + 2 + length m.deltas) old new → mid.told ≡ old.told → mid.faults ≡ old.faults → IfSome old.told (λ image. FitsManifest image r (view_manifest m))
    → HasCause mid.faults new.faults (of_disk {A = A} (Err e)) → RefusesStep (HurtsIndexes mid.told (view_manifest m)) e → OpensSynced old new (Err e)
no_indexes A old mid new r m e looks same kept has cause refused =
    stopped (1 + 2 + length m.deltas) old new e looks (cause_on A Opened old.faults mid.faults new.faults e kept cause) (unsynced_never (HurtsIndexes mid.told (view_manifest m)) e refused)
    (refuses_so (HurtsIndexes mid.told (view_manifest m)) old.told e (λ x hurts. where_told old.told _ (λ image tells. in_index r (view_manifest m) (told_at old.told image _ tells has) (told_at mid.told image _ (same ∙ tells) hurts))) refused)
    (reads_by old new r m looks has)

pub no_memory : (old new : DiskState) (r : Root) (m : Manifest) → LooksOnly (1 + 2 + length m.deltas) old new → new.faults ≡ old.faults → IfSome old.told (λ image. FitsManifest image r (view_manifest m)) → OpensSynced old new (Err refusals.Memory)
no_memory old new r m looks kept has = stopped (1 + 2 + length m.deltas) old new refusals.Memory looks (no_cause old.faults new.faults (Ok tt) kept refl) refl tt (reads_by old new r m looks has)

-- the first extent that stands where the least misplaced one does is the least misplaced one
least : (image : List ℕ) (r : Root) (m : store.Manifest) (is : List (List store.TableIndex)) (e : Extent) → FitsManifest image r m → ReadsAll image m.catalogue m.deltas is → MeetsFirst m.limit (named_extents r m is) e → IsLeastMisplaced image r m e
least image r m is e has reads meets = record {
  indexes = is;
  read_all = reads;
  misplaced = damage_shows.at_place image r m is meets.overlap.extent e has.0 reads meets.overlap.misplaced meets.there meets.overlap.here;
  least = meets.overlap.least;
}

pub no_space : (A : Type 0) (old new : DiskState) (r : Root) (m : Manifest) (is : List DeltaIndex) (live : List Extent) (e : OpenRefusal) → LooksOnly (1 + 2 + length m.deltas) old new → new.faults ≡ old.faults → IfSome old.told (λ image. FitsManifest image r (view_manifest m))
    → IfSome old.told (λ image. ReadsAll image m.catalogue (view_manifest m).deltas (map view_index is)) → live ≡ named_extents r (view_manifest m) (map view_index is) → of_disk {A = A} (Err e) ≡ Ok tt → RefusesStep (MeetsFirst m.limit live) e
    → OpensSynced old new (Err e)
no_space A old new r m is live e looks kept has reads named own refused =
    stopped (1 + 2 + length m.deltas) old new e looks (cause_on A Opened old.faults old.faults new.faults e refl (no_cause old.faults new.faults (of_disk {A = A} (Err e)) kept own)) (unsynced_never (MeetsFirst m.limit live) e refused)
    (refuses_so (MeetsFirst m.limit live) old.told e (λ x meets. where_told old.told _ (λ image tells.
    let h = told_at old.told image _ tells has in
    in_places r (view_manifest m) h (least image r (view_manifest m) (map view_index is) x h (told_at old.told image _ tells reads) (subst (λ xs. MeetsFirst m.limit xs x) named meets)))) refused)
    (reads_by old new r m looks has)

-- ---- what was read before the indexes

-- of a result the type of its value
abbrev pub value_of : {T E : Type 0} → Result T E → Type 0
value_of {T} r = T

-- a manifest was read behind a root
pub record IsBehind (old now : DiskState) (r : Root) (m : Manifest) : Type 0 where
  pub looks : LooksOnly (1 + 2) old now
  pub faults : now.faults ≡ old.faults
  pub has : IfSome old.told (λ image. FitsManifest image r (view_manifest m))

module _ {D : Type 0} (v : Device D) where
  pub behind : (old mid now : D) (r : Root) (m : Manifest) → LooksOnly 1 (v.state old) (v.state mid) → LooksOnly 2 (v.state mid) (v.state now) → (v.state mid).faults ≡ (v.state old).faults → (v.state now).faults ≡ (v.state mid).faults
      → IfSome (v.state old).told (λ image. CountsAsRoot image r) → IfSome (v.state mid).told (λ image. ReadsManifest image r m) → IsBehind (v.state old) (v.state now) r m
  behind old mid now r m first second kept kept_on root manifest = record {
    looks = looks_on v 1 2 old mid now first second;
    faults = kept_on ∙ kept;
    has = where_told (v.state old).told _ (λ image tells. let is = told_at (v.state mid).told image _ (first.told ∙ tells) manifest in
        ((told_at (v.state old).told image _ tells root, is.0), is.1));
  }

  -- and what follows
  pub looks_behind : (old mid now : D) (r : Root) (m : Manifest) → IsBehind (v.state old) (v.state mid) r m → LooksOnly (length m.deltas) (v.state mid) (v.state now) → LooksOnly (1 + 2 + length m.deltas) (v.state old) (v.state now)
  looks_behind old mid now r m was next = looks_on v 3 (length m.deltas) old mid now was.looks next

-- ---- opened

pub opens : (old new : DiskState) (o : Opened) (live : List Extent) → LooksOnly (1 + 2 + length o.manifest.deltas) old new → new.faults ≡ old.faults → IfSome old.told (λ image. FitsManifest image o.store.root (view_manifest o.manifest))
    → IfSome old.told (λ image. ReadsAll image o.manifest.catalogue (view_manifest o.manifest).deltas (map view_index o.indexes.items)) → IsLawfulManifest (view_manifest o.manifest) → AllByRecursion IsLawful (map view_index o.indexes.items)
    → live ≡ named_extents o.store.root (view_manifest o.manifest) (map view_index o.indexes.items) → IsTrue (are_apart o.manifest.limit live) → IsPermutation live o.store.space.taken → o.store.space.limit ≡ o.manifest.limit → o.store.broken ≡ false → OpensSynced old new (Ok o)
opens old new o live looks kept has reads lawful all named apart taken limit whole = record {
  opened = where_told old.told _ (λ image tells.
      let h = told_at old.told image _ tells has in
      record { root = h.0.0; manifest = h.0.1; indexes = told_at old.told image _ tells reads; extents = subst (λ xs. IsTrue (are_apart o.manifest.limit xs)) named apart });
  stands = record {
    root = refl;
    limit = sym limit;
    taken = subst (λ xs. IsPermutation xs o.store.space.taken) (named ∙ sym (append-nil (named_extents o.store.root (view_manifest o.manifest) (map view_index o.indexes.items)))) taken;
  };
  whole = whole;
  lawful = (lawful, all);
  refused = tt;
  images = looks.images;
  told = looks.told;
  reads = reads_by old new o.store.root o.manifest looks has;
  goes = looks.goes;
  cause = no_cause old.faults new.faults (Ok tt) kept refl;
  written = no_cause old.write_faults new.write_faults (Ok tt) looks.write_faults refl;
}
