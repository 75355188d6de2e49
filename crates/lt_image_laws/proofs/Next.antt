-- The next session's part is prepared.
use Rattle.std.proofs.Common.{List, [], arith, length, refl, subst, sym, ℕ, ◌++◌, ◌∷◌, ◌≡◌}
use Rattle.std.specs.Prelude.{Bool, Contains, IsTrue, filter, nat_le}
use Rattle.std.specs.List.{AllByRecursion}
use Rattle.lt_terms.specs.declared.Extent.{Extent}
use Rattle.lt_terms.specs.declared.Root.{Root}
use Rattle.lt_world.specs.Disk.{bytes_in}
use Rattle.lt_world.specs.Feed.{Feed}
use Rattle.lt_machine.specs.Machine.{State}
use Rattle.lt_world.specs.Extents.{are_apart, end_of}
use Rattle.lt_storage.specs.Store.{AreLawfulTables, Delta, Durable, Placing, are_within, bundle_extents, extents_of, manifest_bytes, root_extent}
use Rattle.lt_codecs.proofs.ListFacts.{all_append, all_front, all_rest}
use Rattle.lt_laws.proofs.ListFacts.{all_at, contains_rest}
use Rattle.lt_laws.proofs.NewDelta.{tests_hold}
use Rattle.lt_laws.proofs.ReadLaws.{all_tests}
use Rattle.lt_image_laws.specs.Apart.{new_extents}
use Rattle.lt_image_laws.specs.Commit.{IsPrepared}
use Rattle.lt_image_laws.specs.Next.{GoesOnTo, NextIsPrepared, WritesDelta, WritesManifest, those}
use Rattle.lt_image_laws.specs.Shelf.{DeltaStands, Shelved, ShelfStands, manifest_for, placing_for, shelved_of}
use Rattle.lt_image_laws.specs.Standing.{IsRooted}
use Rattle.lt_image_laws.proofs.Apart.{apart_laws, extents_are, index_extents, kept_bundles, pushed_bundles, pushed_indexes, some_bundles, some_indexes}
use Rattle.lt_image_laws.proofs.Placed.{placed_holds, shelf_laws}
use Rattle.lt_image_laws.proofs.Standing.{within_parts}

-- ---- within the file

abbrev IsIn : List ℕ → Extent → Type 0
IsIn image e = IsTrue (nat_le (end_of e) (length image))

within_all : (image : List ℕ) (es : List Extent) → IsTrue (are_within image es) → AllByRecursion (IsIn image) es
within_all image es h = all_tests (λ (e : Extent). nat_le (end_of e) (length image)) es h

all_within : (image : List ℕ) (es : List Extent) → AllByRecursion (IsIn image) es → IsTrue (are_within image es)
all_within image es a = tests_hold (λ (e : Extent). nat_le (end_of e) (length image)) es a

-- of a shelf: what holds of its extents
record ShelfHas (P : Extent → Type 0) (ks : List Shelved) : Type 0 where
  indexes : AllByRecursion P (index_extents ks)
  bundles : AllByRecursion P (kept_bundles ks)

shelf_has : (P : Extent → Type 0) (r : Root) (d : Durable) (ks : List Shelved) → AllByRecursion P (extents_of (placing_for r d ks)) → ShelfHas P ks
shelf_has P r d ks a =
    let b = subst (AllByRecursion P) (extents_are r d ks) a in
    record { indexes = all_front P (index_extents ks) (kept_bundles ks) b.1; bundles = all_rest P (index_extents ks) (kept_bundles ks) b.1 }

some_have : (P : Extent → Type 0) (p : ℕ → Bool) (ks : List Shelved) → ShelfHas P ks → ShelfHas P (filter (λ k. p k.id) ks)
some_have P p ks h = record { indexes = some_indexes p P ks h.indexes; bundles = some_bundles p P ks h.bundles }

placing_has : (P : Extent → Type 0) (r : Root) (d : Durable) (ks : List Shelved) → P (root_extent r) → ShelfHas P ks → AllByRecursion P (extents_of (placing_for r d ks))
placing_has P r d ks root h = subst (AllByRecursion P) (sym (extents_are r d ks)) (root, all_append P (index_extents ks) (kept_bundles ks) h.indexes h.bundles)

grown_has : (P : Extent → Type 0) (ks : List Shelved) (k : Shelved) → ShelfHas P ks → P k.extent → AllByRecursion P (bundle_extents (k.index ∷ [])) → ShelfHas P (ks ++ k ∷ [])
grown_has P ks k h index bundles = record {
  indexes = subst (AllByRecursion P) (sym (pushed_indexes ks k)) (all_append P (index_extents ks) (k.extent ∷ []) h.indexes (index, tt));
  bundles = subst (AllByRecursion P) (sym (pushed_bundles ks k)) (all_append P (kept_bundles ks) (bundle_extents (k.index ∷ [])) h.bundles bundles);
}

-- ---- what stays of the session before

module _ (f : Feed) (s s' : State) (l : Placing) (made made' : List Extent) (r : Root) (p : ℕ → Bool) (seen : List ℕ) (on : IsRooted f s l made seen) (next : GoesOnTo f s s' made' seen) where
  same : placing_for l.root s.durable (shelved_of l) ≡ l
  same = (shelf_laws.stands s.durable l seen on.honest.placed).1

  kept_stand : ShelfStands seen (those p l) (filter (λ x. p x.id) s.durable.shelf)
  kept_stand = shelf_laws.kept seen p (shelved_of l) s.durable.shelf (shelf_laws.stands s.durable l seen on.honest.placed).0

  kept_within : ShelfHas (IsIn seen) (those p l)
  kept_within =
      let all = within_all seen (extents_of l) (within_parts seen (extents_of l) made on.honest.within) in
      some_have (IsIn seen) p (shelved_of l) (shelf_has (IsIn seen) l.root s.durable (shelved_of l) (subst (λ (k : Placing). AllByRecursion (IsIn seen) (extents_of k)) (sym same) all))

  -- what is prepared, where all is placed, apart and within
  prepared : (js : List Shelved) → ShelfStands seen js s'.durable.shelf → r.generation ≡ s'.durable.generation → IsTrue (are_apart s.durable.limit (extents_of (placing_for r s'.durable js) ++ made'))
      → AllByRecursion (IsIn seen) (extents_of (placing_for r s'.durable js) ++ made') → bytes_in seen (root_extent r) ≡ manifest_bytes (manifest_for s'.durable js) → IsPrepared f s' (placing_for r s'.durable js) made' seen
  prepared js stand generation apart within bytes =
      let l' = placing_for r s'.durable js in
      let apart' : IsTrue (are_apart s'.durable.limit (extents_of l' ++ made')) = subst (λ (n : ℕ). IsTrue (are_apart n (extents_of l' ++ made'))) (sym next.limit) apart in
      let own = apart_laws.front s'.durable.limit (extents_of l') made' apart' in
      record {
        fronts = next.fronts;
        good = next.good;
        placed = placed_holds.placed s'.durable r js seen next.good.lawful generation stand own bytes;
        apart = own;
        within = all_within seen (extents_of l' ++ made') within;
        job = next.job;
        made_apart = apart_laws.rest s'.durable.limit (extents_of l') made' apart';
      }

  manifest : WritesManifest s s' l r p made' seen → IsPrepared f s' (placing_for r s'.durable (those p l)) made' seen
  manifest w =
      let js = those p l in
      let all = within_all seen (root_extent r ∷ made') w.within in
      prepared js (subst (ShelfStands seen js) (sym w.shelf) kept_stand) w.generation
      (apart_laws.kept s.durable.limit l.root r s.durable s'.durable (shelved_of l) p made' (subst (λ (k : Placing). IsTrue (are_apart s.durable.limit ((extents_of k ++ root_extent r ∷ []) ++ made'))) (sym same) w.apart))
      (all_append (IsIn seen) (extents_of (placing_for r s'.durable js)) made' (placing_has (IsIn seen) r s'.durable js all.0 kept_within) all.1) w.bytes

  delta : (k : Shelved) (x : Delta) → WritesDelta s s' l r p k x made' seen → IsPrepared f s' (placing_for r s'.durable (those p l ++ k ∷ [])) made' seen
  delta k x w =
      let js = those p l ++ k ∷ [] in
      let bs = bundle_extents (k.index ∷ []) in
      let all = within_all seen (new_extents k r ++ made') w.within in
      let new = all_front (IsIn seen) (new_extents k r) made' all in
      let tail = all_rest (IsIn seen) bs (k.extent ∷ root_extent r ∷ []) new in
      let lawful = all_at (AreLawfulTables s'.durable.catalogue) s'.durable.shelf x next.good.lawful.shelf (subst (λ (xs : List Delta). Contains xs x) (sym w.shelf) (contains_rest (filter (λ x. p x.id) s.durable.shelf) (x ∷ []) x (0, omega arith, refl))) in
      let one : DeltaStands seen k x = shelf_laws.written seen s'.durable.catalogue k x next.good.lawful.manifest.catalogue lawful w.id w.tables w.fits w.index in
      prepared js (subst (ShelfStands seen js) (sym w.shelf) (shelf_laws.one_more seen (those p l) (filter (λ x. p x.id) s.durable.shelf) k x kept_stand one)) w.generation
      (apart_laws.grown s.durable.limit l.root r s.durable s'.durable (shelved_of l) p k made' (subst (λ (y : Placing). IsTrue (are_apart s.durable.limit ((extents_of y ++ new_extents k r) ++ made'))) (sym same) w.apart))
      (all_append (IsIn seen) (extents_of (placing_for r s'.durable js)) made'
      (placing_has (IsIn seen) r s'.durable js tail.1.0 (grown_has (IsIn seen) (those p l) k kept_within tail.0 (all_front (IsIn seen) bs (k.extent ∷ root_extent r ∷ []) new))) (all_rest (IsIn seen) (new_extents k r) made' all)) w.bytes

pub next_is_prepared : NextIsPrepared
next_is_prepared = record {
  manifest = λ f s s' l made made' r p seen on next w. manifest f s s' l made made' r p seen on next w;
  delta = λ f s s' l made made' r p k x seen on next w. delta f s s' l made made' r p seen on next k x w;
}
