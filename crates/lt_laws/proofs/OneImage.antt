-- An image holds one durable part: the slot that counts names one manifest, it names the indexes, and they the bundles, and the bytes of
-- each are those of one.
use Rattle.std.proofs.Common.{Bool, List, [], ap, ap₂, arith, drop, eqb-true, false, length, ltb-true, refl, subst, sym, true, ℕ, ◌++◌, ◌-◌, ◌<◌, ◌∙◌, ◌∷◌, ◌≡◌}
use Rattle.std.specs.Prelude.{IsTrue, Some, codes, nat_le, nat_lt, not, ◌&&◌, ◌==◌, ◌^◌}
use Rattle.std.specs.Int.{w64}
use Rattle.std.proofs.lemmas.Bool.{and_parts, eqb-false}
use Rattle.std.proofs.lemmas.List.{append_cancel_left, length-append, length-replicate, length-take}
use Rattle.std.specs.List.{AllByRecursion, list_all}
use Rattle.lt_terms.specs.Log.{u64}
use Rattle.lt_terms.specs.declared.Root.{Root}
use Rattle.lt_terms.specs.declared.Extent.{Extent}
use Rattle.lt_terms.specs.Key.{below, max_key}
use Rattle.lt_terms.specs.Layout.{Leaf}
use Rattle.lt_world.specs.Slots.{CountsAsRoot, IsSlot, is_open, is_root, slot_body, slot_place}
use Rattle.lt_world.specs.Disk.{bytes_at, bytes_in, zeros}
use Rattle.lt_tables.specs.Schema.{Catalogue, Table, table_numbered}
use Rattle.lt_tables.specs.Version.{RowVersion}
use Rattle.lt_storage.specs.Store.{BundleEntry, Delta, Durable, HasBundles, HasDeltas, HasTables, HoldsOne, IsIndex, IsTableIndex, Manifest, TableDelta, TableIndex, durable_of, entries_rise, entry_extent, is_entry, manifest_bytes, root_extent}
use Rattle.lt_codecs.specs.Codec.{number}
use Rattle.lt_codecs.proofs.Codecs.{number_is, spell_apart, wide64}
use Rattle.lt_laws.proofs.LawfulImages.{generation_fits}
use Rattle.lt_laws.proofs.ReadLaws.{all_tests}
use Rattle.lt_store_codecs.proofs.BundleLaws as bundles
use Rattle.lt_store_codecs.proofs.IndexLaws as indexes
use Rattle.lt_store_codecs.proofs.ManifestLaws as manifests

-- ---- the slot that counts

u64_once : (a b : ℕ) (x y : List ℕ) → a < 2 ^ 64 → b < 2 ^ 64 → u64 a ++ x ≡ u64 b ++ y → (a ≡ b) × (x ≡ y)
u64_once a b x y h i e = spell_apart (number w64 (2 ^ 64)) (number_is w64 (2 ^ 64) wide64) a b x y h i e

-- the three numbers of a root fit 64 bits
pub record FitsSlot (r : Root) : Type 0 where
  pub generation : r.generation < 2 ^ 64
  pub place : r.place < 2 ^ 64
  pub long : r.length < 2 ^ 64

fits_slot : (r : Root) → IsTrue (is_root r.generation r.place r.length) → FitsSlot r
fits_slot r h =
    let a = and_parts _ (nat_lt r.length (2 ^ 64)) h in
    let b = and_parts _ (nat_lt 0 r.length) a.0 in
    let c = and_parts _ (nat_lt r.place (2 ^ 64)) b.0 in
    let d = and_parts (nat_lt 0 r.generation) (nat_lt r.generation (2 ^ 64)) (generation_fits r.generation r.place r.length h) in record {
      generation = ltb-true r.generation (2 ^ 64) d.1;
      place = ltb-true r.place (2 ^ 64) c.1;
      long = ltb-true r.length (2 ^ 64) a.1;
    }

abbrev root_of : ℕ → ℕ → ℕ → ℕ → Root
root_of slot generation place len = record { generation = generation; place = place; length = len; slot = slot }

body_once : (r s : Root) → FitsSlot r → FitsSlot s → r.slot ≡ s.slot → slot_body r.generation r.place r.length ≡ slot_body s.generation s.place s.length → r ≡ s
body_once r s f g same e =
    let a = u64_once r.generation s.generation (u64 r.place ++ (u64 r.length ++ zeros 481)) (u64 s.place ++ (u64 s.length ++ zeros 481)) f.generation g.generation (append_cancel_left (codes "LTROOT") _ _ e) in
    let b = u64_once r.place s.place (u64 r.length ++ zeros 481) (u64 s.length ++ zeros 481) f.place g.place a.1 in
    let c = u64_once r.length s.length (zeros 481) (zeros 481) f.long g.long b.1 in
    ap₂ (λ (slot generation : ℕ). root_of slot generation r.place r.length) same a.0 ∙ ap₂ (root_of s.slot s.generation) b.0 c.0

one_slot : (image : List ℕ) (r s : Root) → IsSlot image r → IsSlot image s → r.slot ≡ s.slot → r ≡ s
one_slot image r s h i same = body_once r s (fits_slot r h.lawful) (fits_slot s i.lawful) same (sym h.spells ∙ ap (λ (slot : ℕ). bytes_at image (slot_place slot) 511) same ∙ i.spells)

-- where both slots are open, the one that counts has the greater generation
pub greater_than : (image : List ℕ) (r s : Root) → CountsAsRoot image r → IsSlot image s → s.slot ≡ 1 - r.slot → s.generation < r.generation
greater_than image r s c i e =
    let other = c.greater (subst (λ (slot : ℕ). IsTrue (is_open image slot)) e i.open_now) in
    let same : other.0 ≡ s = one_slot image other.0 s other.1 i (other.2 ∙ sym e) in
    subst (λ (x : Root). x.generation < r.generation) same other.3

pub one_root : (image : List ℕ) (r s : Root) → CountsAsRoot image r → CountsAsRoot image s → r ≡ s
one_root image r s c d = by_slot (r.slot == s.slot) refl
  where
    by_slot : (b : Bool) → (r.slot == s.slot) ≡ b → r ≡ s
    by_slot true e = one_slot image r s c.is_slot d.is_slot (eqb-true r.slot s.slot e)
    by_slot false e =
        let apart = eqb-false r.slot s.slot e in
        let low : r.slot < 2 = c.which in
        let high : s.slot < 2 = d.which in
        let over : s.slot ≡ 1 - r.slot = omega (arith, low, high, apart) in
        let back : r.slot ≡ 1 - s.slot = omega (arith, low, high, apart) in
        absurd (omega (arith, greater_than image r s c d.is_slot over, greater_than image s r d c.is_slot back))

-- ---- the bundles of a table, the tables of a delta, the deltas of a manifest

bytes_length : (image : List ℕ) (e : Extent) → length (bytes_in image e) ≡ e.length
bytes_length image e = omega (arith, length-take e.length (drop e.place image ++ zeros e.length), length-append (drop e.place image) (zeros e.length), length-replicate {A = ℕ} e.length 0)

entry_short : (image : List ℕ) (e : BundleEntry) → IsTrue (is_entry e) → length (bytes_in image (entry_extent e)) < 2 ^ 64
entry_short image e h =
    let a = and_parts _ (nat_lt e.greatest (2 ^ 64)) h in
    let b = and_parts _ (nat_lt e.least (2 ^ 64)) a.0 in
    let c = and_parts _ (not (below e.last e.first)) b.0 in
    let d = and_parts _ (nat_le (length e.last) max_key) c.0 in
    let f = and_parts _ (nat_le (length e.first) max_key) d.0 in
    let g = and_parts _ (nat_le e.versions e.length) f.0 in
    let i = and_parts _ (nat_lt 0 e.versions) g.0 in
    let short : e.length < 2 ^ 64 = ltb-true e.length (2 ^ 64) (and_parts (nat_lt e.place (2 ^ 64)) (nat_lt e.length (2 ^ 64)) i.0).1 in
    omega (arith, short, bytes_length image (entry_extent e))

one_list : (image : List ℕ) (t : Table) (layout : List Leaf) (es : List BundleEntry) (bs cs : List (List RowVersion)) → AllByRecursion (λ e. IsTrue (is_entry e)) es
    → HasBundles image t layout es bs → HasBundles image t layout es cs → bs ≡ cs
one_list image t layout [] [] [] a h i = refl
one_list image t layout (e ∷ es) (b ∷ bs) (c ∷ cs) a h i =
    ap₂ (λ (x : List RowVersion) (xs : List (List RowVersion)). x ∷ xs) (bundles.one_list t.number layout b c (bytes_in image (entry_extent e)) (entry_short image e a.0) h.0.bundle i.0.bundle) (one_list image t layout es bs cs a.1 h.1 i.1)
one_list image t layout [] (b ∷ bs) cs a h i = absurd h
one_list image t layout [] [] (c ∷ cs) a h i = absurd i
one_list image t layout (e ∷ es) [] cs a h i = absurd h
one_list image t layout (e ∷ es) (b ∷ bs) [] a h i = absurd i

entries_of : (t : TableIndex) → IsTableIndex t → AllByRecursion (λ e. IsTrue (is_entry e)) t.entries
entries_of t is =
    let e = and_parts (nat_lt 0 (length t.entries) && nat_lt (length t.entries) (2 ^ 64) && list_all is_entry t.entries) (entries_rise t.entries) is.entries in
    all_tests is_entry t.entries (and_parts (nat_lt 0 (length t.entries) && nat_lt (length t.entries) (2 ^ 64)) (list_all is_entry t.entries) e.0).1

abbrev table_of : ℕ → List Leaf → List (List RowVersion) → TableDelta
table_of n layout bs = record { table = n; layout = layout; bundles = bs }

one_table : (image : List ℕ) (cat : Catalogue) (i : TableIndex) (d e : TableDelta) (t u : Table) → IsTableIndex i → table_numbered cat i.table ≡ Some t → table_numbered cat i.table ≡ Some u
    → d.table ≡ i.table → e.table ≡ i.table → d.layout ≡ i.layout → e.layout ≡ i.layout → HasBundles image t i.layout i.entries d.bundles → HasBundles image u i.layout i.entries e.bundles → d ≡ e
one_table image cat i d e t u is f g a b c k h j =
    let same : Some t ≡ Some u = sym f ∙ g in
    let one : u ≡ t = cc in
    ap₂ (λ (n : ℕ) (layout : List Leaf). table_of n layout d.bundles) (a ∙ sym b) (c ∙ sym k)
    ∙ ap (table_of e.table e.layout) (one_list image t i.layout i.entries d.bundles e.bundles (entries_of i is) h (subst (λ (x : Table). HasBundles image x i.layout i.entries e.bundles) one j))

one_tables : (image : List ℕ) (cat : Catalogue) (is : List TableIndex) (ds es : List TableDelta) → AllByRecursion IsTableIndex is → HasTables image cat is ds → HasTables image cat is es → ds ≡ es
one_tables image cat [] [] [] a h j = refl
one_tables image cat (i ∷ is) (d ∷ ds) (e ∷ es) a h j = ap₂ (λ (x : TableDelta) (xs : List TableDelta). x ∷ xs) (one_table image cat i d e h.0 j.0 a.0 h.1 j.1 h.2 j.2 h.3 j.3 h.5 j.5) (one_tables image cat is ds es a.1 h.6 j.6)
one_tables image cat [] (d ∷ ds) es a h j = absurd h
one_tables image cat [] [] (e ∷ es) a h j = absurd j
one_tables image cat (i ∷ is) [] es a h j = absurd h
one_tables image cat (i ∷ is) (d ∷ ds) [] a h j = absurd j

abbrev delta_named : ℕ → List TableDelta → Delta
delta_named id ts = record { id = id; tables = ts }

one_delta : (image : List ℕ) (cat : Catalogue) (m : ℕ × Extent) (is js : List TableIndex) (d e : Delta) → d.id ≡ m.0 → e.id ≡ m.0 → IsIndex is (bytes_in image m.1) → IsIndex js (bytes_in image m.1)
    → HasTables image cat is d.tables → HasTables image cat js e.tables → d ≡ e
one_delta image cat m is js d e a b i j h k =
    let same : is ≡ js = (indexes.prefix_free is js (bytes_in image m.1) (bytes_in image m.1) [] [] i j refl).0 in
    ap₂ delta_named (a ∙ sym b) (one_tables image cat is d.tables e.tables i.each h (subst (λ (x : List TableIndex). HasTables image cat x e.tables) (sym same) k))

one_shelf : (image : List ℕ) (cat : Catalogue) (ms : List (ℕ × Extent)) (is js : List (List TableIndex)) (ds es : List Delta) → HasDeltas image cat ms is ds → HasDeltas image cat ms js es → ds ≡ es
one_shelf image cat [] [] [] [] [] h k = refl
one_shelf image cat (m ∷ ms) (i ∷ is) (j ∷ js) (d ∷ ds) (e ∷ es) h k = ap₂ (λ (x : Delta) (xs : List Delta). x ∷ xs) (one_delta image cat m i j d e h.0 k.0 h.1 k.1 h.2 k.2) (one_shelf image cat ms is js ds es h.3 k.3)
one_shelf image cat ms is js ds es h k = absurd assumption

-- ---- the durable part

abbrev durable_by : Root → Manifest → List Delta → Durable
durable_by r m shelf = durable_of (record { root = r; manifest = m; indexes = [] }) shelf

pub holds_one : HoldsOne
holds_one image d e (l, h) (k, i) =
    let root : l.root ≡ k.root = one_root image l.root k.root h.root i.root in
    let spelled : manifest_bytes l.manifest ≡ manifest_bytes k.manifest = sym h.manifest.spells ∙ ap (λ (r : Root). bytes_in image (root_extent r)) root ∙ i.manifest.spells in
    let manifest : l.manifest ≡ k.manifest = (manifests.prefix_free l.manifest k.manifest [] [] h.manifest.lawful i.manifest.lawful (ap (λ (x : List ℕ). x ++ []) spelled)).0 in
    let shelf : d.shelf ≡ e.shelf = one_shelf image k.manifest.catalogue k.manifest.deltas l.indexes k.indexes d.shelf e.shelf (subst (λ (m : Manifest). HasDeltas image m.catalogue m.deltas l.indexes d.shelf) manifest h.deltas) i.deltas in
    h.durable ∙ ap₂ (λ (r : Root) (m : Manifest). durable_by r m d.shelf) root manifest ∙ ap (durable_by k.root k.manifest) shelf ∙ sym i.durable
