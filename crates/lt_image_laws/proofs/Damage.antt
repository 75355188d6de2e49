-- What a reading cannot read is damage, and on a sound image none shows.
use Rattle.std.proofs.Common.{Bool, List, Some, [], ap, arith, false, get_or, inl, inr, length, leb-true, ltb-true, refl, subst, sym, suc, true, zero, ℕ, ◌++◌, ◌-◌, ◌<◌, ◌∙◌, ◌∷◌, ◌≡◌, ◌≤◌, ◌⊎◌}
use Rattle.std.specs.Prelude.{Contains, IsTrue, codes, map, nat_le, nat_lt, not, slice_get, ◌&&◌, ◌||◌, ◌^◌, ◌≢◌}
use Rattle.std.specs.List.{AllByRecursion, list_all}
use Rattle.std.proofs.lemmas.Bool.{and_from, and_parts, both_ways, cases_eq, false_from_ne_true, or_cases}
use Rattle.std.proofs.lemmas.List.{length-append}
use Rattle.lt_terms.specs.declared.Extent.{Extent}
use Rattle.lt_terms.specs.declared.Root.{Root}
use Rattle.lt_world.specs.Disk.{bytes_at, bytes_in}
use Rattle.lt_world.specs.Feed.{Feed}
use Rattle.lt_terms.specs.Key.{below, max_key}
use Rattle.lt_terms.specs.Layout.{Leaf}
use Rattle.lt_tables.specs.Version.{RowVersion}
use Rattle.lt_machine.specs.Outside.{Causes}
use Rattle.lt_machine.specs.Program.{KeepsLows, OpenCaused, ReadsAll}
use Rattle.lt_world.specs.Slots.{IsDamagedSlot}
use Rattle.lt_world.specs.Extents.{IsMisplaced}
use Rattle.lt_tables.specs.Pump.{IsMismatch}
use Rattle.lt_machine.specs.Run.{AreReadable, IsBadBundle, IsDamaged, IsDamagedAgain, StartFault, is_known_index, no_store, start_damaged, start_disk, start_feed, start_mismatch, store_there}
use Rattle.lt_tables.specs.Schema.{Catalogue, Table, table_numbered}
use Rattle.lt_machine.specs.Sound.{IsSound}
use Rattle.lt_world.specs.Slots.{CountsAsRoot, HasNoStore, IsSlot, is_open, is_root, slot_place}
use Rattle.lt_world.specs.Extents.{apart, are_apart, end_of}
use Rattle.lt_storage.specs.Store.{BundleEntry, Delta, Durable, HasBundle, HasBundles, HasDeltas, HasPlaced, HasTables, HoldsAt, HurtBundle, HurtIndex, IsHurt, IsIndex, IsManifest, IsStore, IsTableIndex, Manifest, Placing, TableDelta, TableIndex, bundle_extents, counted32, entries_rise, entry_extent, extents_of, index_bytes, is_entry, is_stream_entry, root_extent, table_index_bytes}
use Rattle.lt_codecs.proofs.ListFacts.{all_append}
use Rattle.lt_disk.proofs.Written.{bytes_length}
use Rattle.lt_laws.proofs.DurableFacts.{got_is_held}
use Rattle.lt_laws.proofs.ListFacts.{all_at, contains_front, contains_rest, in_map}
use Rattle.lt_laws.proofs.LawfulImages.{holds_lawful}
use Rattle.lt_laws.proofs.OneImage.{greater_than, one_root}
use Rattle.lt_laws.proofs.ReadLaws.{all_tests}
use Rattle.lt_root.proofs.SlotLaws.{generation_back}
use Rattle.lt_image_laws.specs.Opening.{DamageShows, HasManifest, SoundShowsNone, named_extents}
use Rattle.lt_image_laws.proofs.Bytes.{table_extents}
use Rattle.lt_image_laws.proofs.Headers.{no_mismatch}
use Rattle.lt_image_laws.proofs.OnePlacing.{one_index, one_manifest, one_placing, of_reads, read_held}
use Rattle.lt_image_laws.proofs.Opening.{known, reads}

-- ---- the part that a store holds stands behind the root and manifest that were read

pub record HeldBehind (image : List ℕ) (r : Root) (m : Manifest) : Type 0 where
  pub durable : Durable
  pub placing : Placing
  pub holds : HoldsAt image durable placing
  pub root : placing.root ≡ r
  pub manifest : placing.manifest ≡ m

pub behind : (image : List ℕ) (r : Root) (m : Manifest) → HasManifest image r m → IsStore image → HeldBehind image r m
behind image r m has (d, (l, h)) =
    let root = one_root image l.root r h.root has.0 in record {
      durable = d;
      placing = l;
      holds = h;
      root = root;
      manifest = one_manifest (bytes_in image (root_extent r)) l.manifest m (subst (λ (q : Root). IsManifest l.manifest (bytes_in image (root_extent q))) root h.manifest) has.1;
    }

-- an open slot of the two
open_no_store : (image : List ℕ) (slot : ℕ) → slot < 2 → IsTrue (is_open image slot) → HasNoStore image → ⊥
open_no_store image slot low gate none = elim (cases_eq slot 0) [
  | inl first ↦ both_ways (is_open image 0) none.0 (subst (λ (n : ℕ). IsTrue (is_open image n)) first gate)
  | inr other ↦ both_ways (is_open image 1) none.1 (subst (λ (n : ℕ). IsTrue (is_open image n)) (let e : slot ≡ 1 = omega (arith, low, other) in e) gate)
]

counts_no_store : (image : List ℕ) (r : Root) → CountsAsRoot image r → HasNoStore image → ⊥
counts_no_store image r c none = open_no_store image r.slot c.which c.is_slot.open_now none

-- ---- a slot

-- what stands in one slot has one generation
same_generation : (image : List ℕ) (r q : Root) → IsSlot image r → IsSlot image q → r.slot ≡ q.slot → r.generation ≡ q.generation
same_generation image r q h i same =
    sym (generation_back r (bytes_at image (slot_place r.slot) 511) h.lawful h.spells) ∙ generation_back q (bytes_at image (slot_place r.slot) 511) i.lawful (ap (λ (n : ℕ). bytes_at image (slot_place n) 511) same ∙ i.spells)

slot_no_store : (image : List ℕ) (e : Extent) → IsDamagedSlot image e → HasNoStore image → ⊥
slot_no_store image e (inl (n, low, is, gate, bad, before)) none = open_no_store image n low gate none
slot_no_store image e (inr (is, (r, q, r_is, q_is, r_at, q_at, same))) none = open_no_store image r.slot (omega (arith, r_at)) r_is.open_now none

slot_unheld : (image : List ℕ) (e : Extent) → IsDamagedSlot image e → IsStore image → ⊥
slot_unheld image e (inl (n, low, is, gate, bad, before)) (d, (l, h)) = elim (cases_eq n l.root.slot) [
  | inl here ↦ bad l.root (sym here) h.root.is_slot
  | inr other ↦
      let there : n ≡ 1 - l.root.slot = omega (arith, low, other, h.root.which) in
      let found = h.root.greater (subst (λ (k : ℕ). IsTrue (is_open image k)) there gate) in
      bad found.0 (found.2 ∙ sym there) found.1
]
slot_unheld image e (inr (is, (r, q, r_is, q_is, r_at, q_at, same))) (d, (l, h)) = elim (cases_eq l.root.slot 0) [
  | inl first ↦ absurd (omega (arith, greater_than image l.root q h.root q_is (omega (arith, q_at, first)), same, same_generation image l.root r h.root.is_slot r_is (omega (arith, first, r_at))))
  | inr other ↦
      let second : l.root.slot ≡ 1 = omega (arith, h.root.which, other) in
      absurd (omega (arith, greater_than image l.root r h.root r_is (omega (arith, r_at, second)), same, same_generation image l.root q h.root.is_slot q_is (omega (arith, second, q_at))))
]

slot : (image : List ℕ) (e : Extent) → IsDamagedSlot image e → IsDamaged image e
slot image e h = record { not_a_store = slot_unheld image e h; has_gate = slot_no_store image e h; named = inl h }

-- ---- an index

-- each delta of a manifest has its index, which the catalogue knows, and its tables
pub record HasDelta (image : List ℕ) (cat : Catalogue) (is : List (List TableIndex)) (x : ℕ × Extent) : Type 0 where
  pub index : List TableIndex
  pub among : Contains is index
  pub stands : IsIndex index (bytes_in image x.1)
  pub tables : List TableDelta
  pub has : HasTables image cat index tables

pub delta_of : (image : List ℕ) (cat : Catalogue) (ms : List (ℕ × Extent)) (is : List (List TableIndex)) (ds : List Delta) (x : ℕ × Extent) → HasDeltas image cat ms is ds → Contains ms x → HasDelta image cat is x
delta_of image cat [] [] [] x h c = absurd (omega (arith, c.1))
delta_of image cat (m ∷ ms) (i ∷ is) (d ∷ ds) x h (zero, low, e) =
    subst (HasDelta image cat (i ∷ is)) e (record { index = i; among = (zero, omega arith, refl); stands = h.1; tables = d.tables; has = h.2 })
delta_of image cat (m ∷ ms) (i ∷ is) (d ∷ ds) x h (suc k, low, e) =
    let rest = delta_of image cat ms is ds x h.3 (k, omega (arith, low), e) in
    let there = rest.among in
    record { index = rest.index; among = (suc there.0, omega (arith, there.1), there.2); stands = rest.stands; tables = rest.tables; has = rest.has }
delta_of image cat ms is ds x h c = absurd h

held_delta : (image : List ℕ) (r : Root) (m : Manifest) (d : ℕ × Extent) → (b : HeldBehind image r m) → Contains m.deltas d → HasDelta image m.catalogue b.placing.indexes d
held_delta image r m d b c =
    delta_of image m.catalogue m.deltas b.placing.indexes b.durable.shelf d (subst (λ (n : Manifest). HasDeltas image n.catalogue n.deltas b.placing.indexes b.durable.shelf) b.manifest b.holds.deltas) c

index : (image : List ℕ) (r : Root) (m : Manifest) (d : ℕ × Extent) → HasManifest image r m → Contains m.deltas d → ((i : List TableIndex) → IsIndex i (bytes_in image d.1) → is_known_index m.catalogue i ≡ true → ⊥) → IsDamaged image d.1
index image r m d has c bad = record {
  not_a_store = λ store. let x = held_delta image r m d (behind image r m has store) c in bad x.index x.stands (known image m.catalogue x.index x.tables x.has);
  has_gate = counts_no_store image r has.0;
  named = inr (r, has.0, inr (m, has.1, inl (d, c, refl, bad)));
}

-- ---- a bundle

bundle_had : (image : List ℕ) (t : Table) (layout : List Leaf) (es : List BundleEntry) (bs : List (List RowVersion)) (b : BundleEntry) → HasBundles image t layout es bs → Contains es b → (vs : List RowVersion) × HasBundle image t layout b vs
bundle_had image t layout [] [] b h c = absurd (omega (arith, c.1))
bundle_had image t layout (e ∷ es) (x ∷ xs) b h (zero, low, is) = (x, subst (λ (y : BundleEntry). HasBundle image t layout y x) is h.0)
bundle_had image t layout (e ∷ es) (x ∷ xs) b h (suc k, low, is) = bundle_had image t layout es xs b h.1 (k, omega (arith, low), is)
bundle_had image t layout [] (x ∷ xs) b h c = absurd h
bundle_had image t layout (e ∷ es) [] b h c = absurd h

-- each table of an index is known, and each of its entries has its bundle
pub record HasEntry (image : List ℕ) (cat : Catalogue) (i : TableIndex) (b : BundleEntry) : Type 0 where
  pub table : Table
  pub known : table_numbered cat i.table ≡ Some table
  pub versions : List RowVersion
  pub has : HasBundle image table i.layout b versions

pub entry_had : (image : List ℕ) (cat : Catalogue) (is : List TableIndex) (ds : List TableDelta) (i : TableIndex) (b : BundleEntry) → HasTables image cat is ds → Contains is i → Contains i.entries b → HasEntry image cat i b
entry_had image cat [] [] i b h c in_i = absurd (omega (arith, c.1))
entry_had image cat (x ∷ is) (d ∷ ds) i b h (zero, low, e) in_i =
    let had = bundle_had image h.0 x.layout x.entries d.bundles b h.5 (subst (λ (y : TableIndex). Contains y.entries b) (sym e) in_i) in
    subst (λ (y : TableIndex). HasEntry image cat y b) e (record { table = h.0; known = h.1; versions = had.0; has = had.1 })
entry_had image cat (x ∷ is) (d ∷ ds) i b h (suc k, low, e) in_i = entry_had image cat is ds i b h.6 (k, omega (arith, low), e) in_i
entry_had image cat [] (d ∷ ds) i b h c in_i = absurd h
entry_had image cat (x ∷ is) [] i b h c in_i = absurd h

bundle : (image : List ℕ) (r : Root) (m : Manifest) (d : ℕ × Extent) (i : List TableIndex) (e : Extent) → HasManifest image r m → Contains m.deltas d → IsIndex i (bytes_in image d.1) → IsBadBundle image m.catalogue i e → IsDamaged image e
bundle image r m d i e has c stands (t, b, in_i, in_t, place, bad) = record {
  not_a_store = λ store. unheld (held_delta image r m d (behind image r m has store) c);
  has_gate = counts_no_store image r has.0;
  named = inr (r, has.0, inr (m, has.1, inr (inl (d, i, c, stands, (t, b, in_i, in_t, place, bad)))));
}
  where
    unheld : {is : List (List TableIndex)} → HasDelta image m.catalogue is d → ⊥
    unheld x =
        let same : i ≡ x.index = one_index (bytes_in image d.1) i x.index stands x.stands in
        let had = entry_had image m.catalogue x.index x.tables t b x.has (subst (λ (j : List TableIndex). Contains j t) same in_i) in_t in
        bad had.table had.versions had.known had.has

-- ---- an extent

-- in a list of extents that are apart none is misplaced
pub apart_both : (a b : Extent) → apart a b ≡ apart b a
apart_both a b = or-swap (nat_le (end_of a) b.place) (nat_le (end_of b) a.place)
  where
    or-swap : (x y : Bool) → (x || y) ≡ (y || x)
    or-swap true true = refl
    or-swap true false = refl
    or-swap false true = refl
    or-swap false false = refl

pub apart_parts : (most : ℕ) (x : Extent) (xs : List Extent) → IsTrue (are_apart most (x ∷ xs)) → IsTrue (nat_le 1024 x.place && nat_le (end_of x) most) × IsTrue (list_all (apart x) xs) × IsTrue (are_apart most xs)
apart_parts most x xs h =
    let p = and_parts (nat_le 1024 x.place && nat_le (end_of x) most && list_all (apart x) xs) (are_apart most xs) h in
    let q = and_parts (nat_le 1024 x.place && nat_le (end_of x) most) (list_all (apart x) xs) p.0 in
    (q.0, q.1, p.1)

alone : (most : ℕ) (xs : List Extent) (e : Extent) → IsTrue (are_apart most xs) → Contains xs e → IsTrue (are_apart most (e ∷ []))
alone most [] e h c = absurd (omega (arith, c.1))
alone most (x ∷ xs) e h (zero, low, is) = subst (λ (y : Extent). IsTrue (are_apart most (y ∷ []))) is (let p = apart_parts most x xs h in and_from _ _ (and_from _ _ p.0 refl) refl)
alone most (x ∷ xs) e h (suc k, low, is) = alone most xs e (apart_parts most x xs h).2 (k, omega (arith, low), is)

pairs : (most : ℕ) (xs : List Extent) (n m : ℕ) (e f : Extent) → IsTrue (are_apart most xs) → n ≢ m → slice_get xs n ≡ Some e → slice_get xs m ≡ Some f → IsTrue (apart e f)
pairs most [] n m e f h other p q = cc
pairs most (x ∷ xs) zero zero e f h other p q = absurd (other refl)
pairs most (x ∷ xs) zero (suc m) e f h other p q =
    let same : x ≡ e = cc in
    subst (λ (y : Extent). IsTrue (apart y f)) same (all_at (λ (y : Extent). IsTrue (apart x y)) xs f (all_tests (apart x) xs (apart_parts most x xs h).1) (got_is_held xs m f q))
pairs most (x ∷ xs) (suc n) zero e f h other p q =
    let same : x ≡ f = cc in
    subst (λ (y : Extent). IsTrue (apart e y)) same (apart_both e x ∙ all_at (λ (y : Extent). IsTrue (apart x y)) xs e (all_tests (apart x) xs (apart_parts most x xs h).1) (got_is_held xs n e p))
pairs most (x ∷ xs) (suc n) (suc m) e f h other p q = pairs most xs n m e f (apart_parts most x xs h).2 (λ same. other (ap suc same)) p q

pub none_misplaced : (most : ℕ) (xs : List Extent) (e : Extent) → IsTrue (are_apart most xs) → IsMisplaced most xs e → ⊥
none_misplaced most xs e h (c, inl bad) = both_ways (are_apart most (e ∷ [])) bad (alone most xs e h c)
none_misplaced most xs e h (c, inr (n, m, f, other, at_n, at_m, bad)) = both_ways (apart e f) bad (pairs most xs n m e f h other at_n at_m)

readable : (image : List ℕ) (cat : Catalogue) (ms : List (ℕ × Extent)) (is : List (List TableIndex)) → ReadsAll image cat ms is → AreReadable image ms is
readable image cat [] [] h = refl
readable image cat (m ∷ ms) (i ∷ is) h = inr (h.0, readable image cat ms is h.2)
readable image cat ms is h = absurd h

extent : (image : List ℕ) (r : Root) (m : Manifest) (is : List (List TableIndex)) (e : Extent) → HasManifest image r m → ReadsAll image m.catalogue m.deltas is → IsMisplaced m.limit (named_extents r m is) e → IsDamaged image e
extent image r m is e has all bad = record {
  not_a_store = λ store. unheld (behind image r m has store);
  has_gate = counts_no_store image r has.0;
  named = inr (r, has.0, inr (m, has.1, inr (inr (is, readable image m.catalogue m.deltas is all, bad))));
}
  where
    unheld : HeldBehind image r m → ⊥
    unheld b =
        let l = b.placing in
        let own : Placing = record { root = r; manifest = m; indexes = is } in
        let same : l ≡ own = one_placing image l own (read_held image b.durable l b.holds) (record { root = has.0; manifest = has.1; indexes = of_reads image m.catalogue m.deltas is all }) in
        none_misplaced m.limit (named_extents r m is) e (subst (λ (k : Placing). IsTrue (are_apart k.manifest.limit (extents_of k))) same b.holds.extents) bad

-- ---- the limit

-- each of the extents that are apart ends within the limit
ends : (most : ℕ) (xs : List Extent) (e : Extent) → IsTrue (are_apart most xs) → Contains xs e → end_of e ≤ most
ends most xs e all there = leb-true (end_of e) most (and_parts (nat_le 1024 e.place) (nat_le (end_of e) most) (apart_parts most e [] (alone most xs e all there)).0).1

manifest : (image : List ℕ) (r : Root) → CountsAsRoot image r → ((m : Manifest) → IsManifest m (bytes_in image (root_extent r)) → m.limit < end_of (root_extent r)) → IsDamaged image (root_extent r)
manifest image r counts bad = record {
  not_a_store = λ (d, (l, h)).
      let behind : l.manifest.limit < end_of (root_extent l.root) = subst (λ (q : Root). (m : Manifest) → IsManifest m (bytes_in image (root_extent q)) → m.limit < end_of (root_extent q)) (one_root image r l.root counts h.root) bad l.manifest h.manifest in
      absurd (omega (arith, behind, ends l.manifest.limit (extents_of l) (root_extent l.root) h.extents (zero, omega arith, refl)));
  has_gate = counts_no_store image r counts;
  named = inr (r, counts, inl (refl, bad));
}

none_readable : (image : List ℕ) (ms : List (ℕ × Extent)) → AreReadable image ms []
none_readable image [] = refl
none_readable image (m ∷ ms) = none_readable image ms

beyond : (image : List ℕ) (r : Root) (m : Manifest) (d : ℕ × Extent) → HasManifest image r m → Contains m.deltas d → m.limit < end_of d.1 → IsDamaged image d.1
beyond image r m d has c far = record {
  not_a_store = λ store.
      let b = behind image r m has store in
      let l = b.placing in
      absurd (omega (arith, far, ap (λ (n : Manifest). n.limit) b.manifest, ends l.manifest.limit (extents_of l) d.1 b.holds.extents (subst (λ (n : Manifest). Contains (root_extent l.root ∷ (map (λ x. x.1) n.deltas ++ bundle_extents l.indexes)) d.1) (sym b.manifest) (among (root_extent l.root) l.indexes))));
  has_gate = counts_no_store image r has.0;
  named = inr (r, has.0, inr (m, has.1, inr (inr ([], none_readable image m.deltas, (among (root_extent r) [], inl (false_from_ne_true (are_apart m.limit (d.1 ∷ [])) (λ is. absurd (omega (arith, far, ends m.limit (d.1 ∷ []) d.1 is (zero, omega arith, refl))))))))));
}
  where
    among : (root : Extent) (is : List (List TableIndex)) → Contains (root ∷ (map (λ x. x.1) m.deltas ++ bundle_extents is)) d.1
    among root is = contains_rest (root ∷ []) (map (λ x. x.1) m.deltas ++ bundle_extents is) d.1 (contains_front (map (λ x. x.1) m.deltas) (bundle_extents is) d.1 (in_map (λ x. x.1) m.deltas d c))

-- ---- the extents that were read are not empty

abbrev IsFilled : Extent → Type 0
IsFilled e = 0 < e.length

index_filled : (image : List ℕ) (e : Extent) (i : List TableIndex) → IsIndex i (bytes_in image e) → IsFilled e
unfolding index_bytes
index_filled image e i h = omega (arith, bytes_length image e.place e.length, ap length h.spells, length-append (codes "LTI1") (counted32 table_index_bytes i))

indexes_filled : (image : List ℕ) (cat : Catalogue) (ms : List (ℕ × Extent)) (is : List (List TableIndex)) → ReadsAll image cat ms is → AllByRecursion IsFilled (map (λ (d : ℕ × Extent). d.1) ms)
indexes_filled image cat [] [] h = tt
indexes_filled image cat (m ∷ ms) (i ∷ is) h = (index_filled image m.1 i h.0, indexes_filled image cat ms is h.2)
indexes_filled image cat ms is h = absurd h

entry_filled : (e : BundleEntry) → IsTrue (is_entry e) → IsFilled (entry_extent e)
entry_filled e h =
    let a = and_parts _ (nat_lt e.greatest (2 ^ 64)) h in
    let b = and_parts _ (nat_lt e.least (2 ^ 64)) a.0 in
    let c = and_parts _ (not (below e.last e.first)) b.0 in
    let d = and_parts _ (nat_le (length e.last) max_key) c.0 in
    let f = and_parts _ (nat_le (length e.first) max_key) d.0 in
    let g = and_parts _ (nat_le e.versions e.length) f.0 in
    let some : 0 < e.versions = ltb-true 0 e.versions (and_parts _ (nat_lt 0 e.versions) g.0).1 in
    let long : e.versions ≤ e.length = leb-true e.versions e.length g.1 in
    omega (arith, some, long)

entries_filled : (es : List BundleEntry) → IsTrue (list_all is_entry es) → AllByRecursion IsFilled (map entry_extent es)
entries_filled [] h = tt
entries_filled (e ∷ es) h = let p = and_parts (is_entry e) (list_all is_entry es) h in (entry_filled e p.0, entries_filled es p.1)

tables_filled : (is : List TableIndex) → AllByRecursion IsTableIndex is → AllByRecursion IsFilled (table_extents is)
tables_filled [] h = tt
tables_filled (i ∷ is) h =
    let p = and_parts (nat_lt 0 (length i.entries) && nat_lt (length i.entries) (2 ^ 64) && list_all is_entry i.entries) (entries_rise i.entries) h.0.entries in
    let q = and_parts (nat_lt 0 (length i.entries) && nat_lt (length i.entries) (2 ^ 64)) (list_all is_entry i.entries) p.0 in
    all_append IsFilled (map entry_extent i.entries) (table_extents is) (entries_filled i.entries q.1) (tables_filled is h.1)

bundles_filled : (image : List ℕ) (cat : Catalogue) (ms : List (ℕ × Extent)) (is : List (List TableIndex)) → ReadsAll image cat ms is → AllByRecursion IsFilled (bundle_extents is)
bundles_filled image cat [] [] h = tt
bundles_filled image cat (m ∷ ms) (i ∷ is) h = all_append IsFilled (table_extents i) (bundle_extents is) (tables_filled i h.0.each) (bundles_filled image cat ms is h.2)
bundles_filled image cat ms is h = absurd h

root_filled : (r : Root) → IsTrue (is_root r.generation r.place r.length) → IsFilled (root_extent r)
root_filled r h = ltb-true 0 r.length (and_parts _ (nat_lt 0 r.length) (and_parts _ (nat_lt r.length (2 ^ 64)) h).0).1

all_filled : (image : List ℕ) (r : Root) (m : Manifest) (is : List (List TableIndex)) → HasManifest image r m → ReadsAll image m.catalogue m.deltas is → AllByRecursion IsFilled (named_extents r m is)
all_filled image r m is has all =
    (root_filled r has.0.is_slot.lawful, all_append IsFilled (map (λ (d : ℕ × Extent). d.1) m.deltas) (bundle_extents is) (indexes_filled image m.catalogue m.deltas is all) (bundles_filled image m.catalogue m.deltas is all))

held_get : {A : Type 0} (xs : List A) (k : ℕ) (x : A) → k < length xs → get_or xs k x ≡ x → slice_get xs k ≡ Some x
held_get [] k x low e = absurd (omega (arith, low))
held_get (y ∷ xs) zero x low e = ap Some e
held_get (y ∷ xs) (suc k) x low e = held_get xs k x (omega (arith, low)) e

-- two at one place meet
meets : (x e : Extent) → IsFilled x → IsFilled e → x.place ≡ e.place → apart x e ≡ false
meets x e some_x some_e here = false_from_ne_true (apart x e) (λ is. elim (or_cases (nat_le (end_of x) e.place) (nat_le (end_of e) x.place) is) [
  | inl before ↦ absurd (omega (arith, leb-true (end_of x) e.place before, here, some_x))
  | inr behind ↦ absurd (omega (arith, leb-true (end_of e) x.place behind, here, some_e))
])

at_place : (image : List ℕ) (r : Root) (m : Manifest) (is : List (List TableIndex)) (e x : Extent) → HasManifest image r m → ReadsAll image m.catalogue m.deltas is → IsMisplaced m.limit (named_extents r m is) e → Contains (named_extents r m is) x → x.place ≡ e.place
    → IsMisplaced m.limit (named_extents r m is) x
at_place image r m is e x has all bad c here = by bad.0 c
  where
    filled : AllByRecursion IsFilled (named_extents r m is)
    filled = all_filled image r m is has all

    by : Contains (named_extents r m is) e → Contains (named_extents r m is) x → IsMisplaced m.limit (named_extents r m is) x
    by (n, n_low, n_is) (k, k_low, k_is) = elim (cases_eq k n) [
      | inl same ↦
          let both : Some e ≡ Some x = sym (held_get (named_extents r m is) n e n_low n_is) ∙ ap (slice_get (named_extents r m is)) (sym same) ∙ held_get (named_extents r m is) k x k_low k_is in
          let one : e ≡ x = cc in
          subst (IsMisplaced m.limit (named_extents r m is)) one bad
      | inr other ↦
          (c, inr (k, n, e, other, held_get (named_extents r m is) k x k_low k_is, held_get (named_extents r m is) n e n_low n_is, meets x e (all_at IsFilled (named_extents r m is) x filled c) (all_at IsFilled (named_extents r m is) e filled bad.0) here))
    ]

pub damage_shows : DamageShows
damage_shows = record { slot = slot; manifest = manifest; index = index; beyond = beyond; extent = extent; at_place = at_place; bundle = bundle }

-- ---- on a sound image none shows

hurt_index : (d : Durable) (l : Placing) (image : List ℕ) (e : Extent) → HasPlaced d l image → HurtIndex image l e → ⊥
hurt_index d l image e h (x, c, here, bad) =
    let has = delta_of image l.manifest.catalogue l.manifest.deltas l.indexes d.shelf x h.deltas c in
    bad has.index (subst (λ (y : Extent). IsIndex has.index (bytes_in image y)) here has.stands)

-- of each index that is placed each delta's tables are had
pub tables_of : (image : List ℕ) (cat : Catalogue) (ms : List (ℕ × Extent)) (is : List (List TableIndex)) (ds : List Delta) (i : List TableIndex) → HasDeltas image cat ms is ds → Contains is i → (ts : List TableDelta) × HasTables image cat i ts
tables_of image cat [] [] [] i h c = absurd (omega (arith, c.1))
tables_of image cat (m ∷ ms) (j ∷ is) (d ∷ ds) i h (zero, low, e) = (d.tables, subst (λ (y : List TableIndex). HasTables image cat y d.tables) e h.2)
tables_of image cat (m ∷ ms) (j ∷ is) (d ∷ ds) i h (suc k, low, e) = tables_of image cat ms is ds i h.3 (k, omega (arith, low), e)
tables_of image cat ms is ds i h c = absurd h

hurt_bundle : (d : Durable) (l : Placing) (image : List ℕ) (e : Extent) → HasPlaced d l image → HurtBundle image d.catalogue l e → ⊥
hurt_bundle d l image e h b =
    let cat : d.catalogue ≡ l.manifest.catalogue = ap (λ (x : Durable). x.catalogue) h.durable in
    let ts = tables_of image l.manifest.catalogue l.manifest.deltas l.indexes d.shelf b.index h.deltas b.known in
    let had = entry_had image l.manifest.catalogue b.index ts.0 b.of_table b.entry ts.1 b.in_index b.in_table in
    b.hurt had.table had.versions (ap (λ (c : Catalogue). table_numbered c b.of_table.table) cat ∙ had.known) had.has

unhurt : (d : Durable) (l : Placing) (image : List ℕ) (e : Extent) → HasPlaced d l image → IsHurt image d.catalogue l e → ⊥
unhurt d l image e h (inl bad) = hurt_index d l image e h bad
unhurt d l image e h (inr bad) = hurt_bundle d l image e h bad

a_store : (f : Feed) (image : List ℕ) → IsSound image f → HasNoStore image → ⊥
a_store f image i none = counts_no_store image i.placing.root i.holds.root none

undamaged : (f : Feed) (image : List ℕ) (e : Extent) → IsSound image f → IsDamagedAgain image e → ⊥
undamaged f image e i (inl bad) = bad.not_a_store (i.durable, (i.placing, i.holds))
undamaged f image e i (inr bad) = a_store f image i bad.0

-- the kept low bounds are those of the part's streams
kept_lows : (f : Feed) (image : List ℕ) (lows : List (List ℕ)) → (i : IsSound image f) → KeepsLows image lows → lows ≡ map (λ s. s.low) i.durable.streams
kept_lows f image lows i (r, m, counts, is, e) =
    let root = one_root image i.placing.root r i.holds.root counts in
    let same : i.placing.manifest ≡ m = one_manifest (bytes_in image (root_extent r)) i.placing.manifest m (subst (λ (q : Root). IsManifest i.placing.manifest (bytes_in image (root_extent q))) root i.holds.manifest) is in
    e ∙ ap (λ (n : Manifest). map (λ s. s.low) n.streams) (sym same) ∙ ap (λ (d : Durable). map (λ s. s.low) d.streams) (sym i.holds.durable)

fits : (f : Feed) (image : List ℕ) (lows : List (List ℕ)) (n : ℕ) → IsSound image f → KeepsLows image lows → IsMismatch f (Some lows) n → ⊥
fits f image lows n i kept bad =
    let d = i.durable in
    let l = holds_lawful image d (i.placing, i.holds) in
    let p = and_parts (nat_lt 0 (length d.streams) && nat_le (length d.streams) 64) (list_all is_stream_entry d.streams) l.manifest.streams in
    let q = and_parts (nat_lt 0 (length d.streams)) (nat_le (length d.streams) 64) p.0 in
    no_mismatch f d.catalogue i.fronts d.streams i.are_fronts i.sound.points n (ltb-true 0 (length d.streams) q.0) (leb-true (length d.streams) 64 q.1)
    (subst (λ (x : List (List ℕ)). IsMismatch f (Some x) n) (kept_lows f image lows i kept) bad)

pub sound_shows_none : SoundShowsNone
sound_shows_none = record { opens = λ f image i. (i.placing, reads image i.durable i.placing i.holds); a_store = a_store; undamaged = undamaged; unhurt = unhurt; fits = fits }

-- so an opening fails there only where a count rose
pub only_counts : (c : Causes) (f : Feed) (image : List ℕ) (r : StartFault) → IsSound image f → OpenCaused c (Some image) (Some f) r → c.disk ⊎ c.feed
only_counts c f image no_store i h = absurd (a_store f image i h)
only_counts c f image start_disk i h = inl h
only_counts c f image start_feed i h = inr h.0
only_counts c f image (start_mismatch n) i (lows, kept, bad) = absurd (fits f image lows n i kept bad)
only_counts c f image (start_damaged place len) i h = absurd (undamaged f image (record { place = place; length = len }) i (inl h))
only_counts c f image store_there i h = absurd h
