-- The index of a new delta is lawful: its entries tell of ordered lists of lawful versions.
use Rattle.std.proofs.Common.{Bool, List, [], ap, ap₂, arith, false, length, le-leb, lt-ltb, ltb-true, leb-true, refl, subst, suc, sym, true, ℕ, ◌++◌, ◌+◌, ◌<◌, ◌∙◌, ◌∷◌, ◌≡◌, ◌≤◌}
use Rattle.std.specs.Prelude.{IsTrue, codes, flat_map, fold, map, max, min, nat_le, nat_lt, not, ◌&&◌, ◌^◌}
use Rattle.std.specs.List.{AllByRecursion, list_all}
use Rattle.std.proofs.lemmas.Bool.{and_from, and_parts, false≢true}
use Rattle.std.proofs.lemmas.Cmp.{nat_list_cmp_total}
use Rattle.std.specs.Ordering.{is_lt, ordering_reverse}
use Rattle.std.proofs.lemmas.List.{length-append, length-map}
use Rattle.lt_terms.specs.declared.Extent.{Extent}
use Rattle.lt_storage.specs.Bundle.{bundle_bytes, leaves_bytes, with_offsets}
use Rattle.lt_world.specs.Disk.{bytes_in}
use Rattle.lt_terms.specs.Key.{below, max_key}
use Rattle.lt_terms.specs.Layout.{Leaf, are_lawful}
use Rattle.lt_terms.specs.Log.{op_byte, u64}
use Rattle.lt_tables.specs.Schema.{Catalogue, IsCatalogue}
use Rattle.lt_terms.specs.Value.{is_timestamp, rises_above, rises_strictly}
use Rattle.lt_tables.specs.Version.{RowVersion, is_ordered, is_version, least_ts, stands_before}
use Rattle.lt_storage.specs.Store.{AreLawfulTables, BundleEntry, Delta, IsIndex, IsLawfulTable, IsLayout, IsTableIndex, TableDelta, TableIndex, bare_entry, entries_rise, entry_extent, first_key, index_bytes, is_entry, last_key}
use Rattle.lt_codecs.proofs.ListFacts.{all_front, all_map, all_rest}
use Rattle.lt_disk.proofs.Written.{bytes_length}
use Rattle.lt_lemmas.proofs.ClipLaws.{key-less}
use Rattle.lt_laws.proofs.ClipLaws.{before-below}
use Rattle.lt_laws.proofs.NewDelta.{tests_hold}
use Rattle.lt_lemmas.proofs.TableLaws.{fine_table}
use Rattle.lt_lemmas.proofs.VersionGrowth.{its_number}
use Rattle.lt_image_laws.specs.Shelf.{BundleStands, BundlesStand, DeltaStands, FitsIndex, Shelved, TablesStand}
use Rattle.lt_image_laws.proofs.Bytes.{table_extents}

-- ---- parts of ordered lists

pub ordered_front : (xs ys : List RowVersion) → IsTrue (is_ordered (xs ++ ys)) → IsTrue (is_ordered xs)
ordered_front [] ys h = refl
ordered_front (x ∷ []) ys h = refl
ordered_front (x ∷ y ∷ xs) ys h = let p = and_parts (stands_before x y) (is_ordered (y ∷ xs ++ ys)) h in and_from (stands_before x y) (is_ordered (y ∷ xs)) p.0 (ordered_front (y ∷ xs) ys p.1)

ordered_tail : (x : RowVersion) (xs : List RowVersion) → IsTrue (is_ordered (x ∷ xs)) → IsTrue (is_ordered xs)
ordered_tail x [] h = refl
ordered_tail x (y ∷ xs) h = (and_parts (stands_before x y) (is_ordered (y ∷ xs)) h).1

pub ordered_rest : (xs ys : List RowVersion) → IsTrue (is_ordered (xs ++ ys)) → IsTrue (is_ordered ys)
ordered_rest [] ys h = h
ordered_rest (x ∷ xs) ys h = ordered_rest xs ys (ordered_tail x (xs ++ ys) h)

-- the last key is not below the first
key_itself : (a : List ℕ) (b : Bool) → below a a ≡ b → b ≡ false
key_itself a true e = sym e ∙ ap is_lt (nat_list_cmp_total.antisymm a a ∙ ap ordering_reverse (key-less a a e))
key_itself a false e = refl

later_not_below : (v w : RowVersion) (bound : List ℕ) (b : Bool) → below w.key bound ≡ b → stands_before v w ≡ true → below v.key bound ≡ false → b ≡ false
later_not_below v w bound true e h i = absurd (false≢true (sym i ∙ before-below v w bound h e))
later_not_below v w bound false e h i = refl

last_not_below : (v : RowVersion) (vs : List RowVersion) (bound : List ℕ) → below v.key bound ≡ false → IsTrue (is_ordered (v ∷ vs)) → below (last_key (v ∷ vs)) bound ≡ false
last_not_below v [] bound h o = h
last_not_below v (w ∷ vs) bound h o =
    let p = and_parts (stands_before v w) (is_ordered (w ∷ vs)) o in
    last_not_below w vs bound (later_not_below v w bound (below w.key bound) refl p.0 h) p.1

pub keys_rise : (vs : List RowVersion) → IsTrue (is_ordered vs) → below (last_key vs) (first_key vs) ≡ false
keys_rise [] o = refl
keys_rise (v ∷ vs) o = last_not_below v vs v.key (key_itself v.key (below v.key v.key) refl) o

-- ---- what an entry tells of lawful versions

pub record IsFit (v : RowVersion) : Type 0 where
  pub short : length v.key ≤ max_key
  pub early : v.ts < 2 ^ 64

fit : (layout : List Leaf) (v : RowVersion) → IsTrue (is_version layout v) → IsFit v
fit layout v h =
    let a = and_parts (nat_le 4 (length v.key) && nat_le (length v.key) max_key && is_timestamp v.ts && are_lawful layout v.cells) _ h in
    let b = and_parts (nat_le 4 (length v.key) && nat_le (length v.key) max_key && is_timestamp v.ts) (are_lawful layout v.cells) a.0 in
    let c = and_parts (nat_le 4 (length v.key) && nat_le (length v.key) max_key) (is_timestamp v.ts) b.0 in
    let d = and_parts (nat_le 4 (length v.key)) (nat_le (length v.key) max_key) c.0 in
    let early : v.ts < 2 ^ 63 = ltb-true v.ts (2 ^ 63) (and_parts (nat_lt 0 v.ts) (nat_lt v.ts (2 ^ 63)) c.1).1 in
    record { short = leb-true (length v.key) max_key d.1; early = omega (arith, early) }

first_short : (vs : List RowVersion) → AllByRecursion IsFit vs → length (first_key vs) ≤ max_key
first_short [] h = omega arith
first_short (v ∷ vs) h = h.0.short

last_short : (k : List ℕ) (vs : List RowVersion) → length k ≤ max_key → AllByRecursion IsFit vs → length (fold (λ (k : List ℕ) (v : RowVersion). v.key) k vs) ≤ max_key
last_short k [] short h = short
last_short k (v ∷ vs) short h = last_short v.key vs h.0.short h.1

least_early : (t : ℕ) (vs : List RowVersion) → t < 2 ^ 64 → fold (λ (t : ℕ) (w : RowVersion). min t w.ts) t vs < 2 ^ 64
least_early t [] early = early
least_early t (v ∷ vs) early = least_early (min t v.ts) vs (omega (arith, early))

least_fits : (vs : List RowVersion) → AllByRecursion IsFit vs → least_ts vs < 2 ^ 64
least_fits [] h = omega arith
least_fits (v ∷ vs) h = least_early v.ts vs h.0.early

greatest_early : (t : ℕ) (vs : List RowVersion) → t < 2 ^ 64 → AllByRecursion IsFit vs → fold (λ (t : ℕ) (w : RowVersion). max t w.ts) t vs < 2 ^ 64
greatest_early t [] early h = early
greatest_early t (v ∷ vs) early h = greatest_early (max t v.ts) vs (omega (arith, early, h.0.early)) h.1

-- a bundle has a byte for each version
pub bundle_long : (layout : List Leaf) (vs : List RowVersion) → length vs ≤ length (bundle_bytes layout vs)
unfolding bundle_bytes
bundle_long layout vs =
    let ops = map (λ (v : RowVersion). op_byte v.op) vs in
    let cells = leaves_bytes layout (map (λ (v : RowVersion). v.cells) vs) in
    let times = flat_map (λ (v : RowVersion). u64 v.ts) vs in
    let keys = with_offsets (map (λ (v : RowVersion). v.key) vs) in
    omega (
      arith,
      length-map vs (λ (v : RowVersion). op_byte v.op),
      length-append ops cells,
      length-append times (ops ++ cells),
      length-append keys (times ++ (ops ++ cells)),
      length-append (u64 (length vs)) (keys ++ (times ++ (ops ++ cells))),
      length-append (codes "LTB1") (u64 (length vs) ++ (keys ++ (times ++ (ops ++ cells)))),
    )

entry_lawful : (image : List ℕ) (layout : List Leaf) (e : BundleEntry) (vs : List RowVersion) → BundleStands image layout e vs → 0 < length vs → IsTrue (is_ordered vs) → AllByRecursion IsFit vs → e.place < 2 ^ 64 → e.length < 2 ^ 64 → IsTrue (is_entry e)
entry_lawful image layout e vs h some ordered fits place_fits length_fits =
    let long : length vs ≤ e.length = omega (arith, bundle_long layout vs, ap length h.bytes, bytes_length image e.place e.length) in
    and_from _ _ (and_from _ _ (and_from _ _ (and_from _ _ (and_from _ _ (and_from _ _ (and_from _ _ (and_from _ _
    (lt-ltb e.place (2 ^ 64) place_fits)
    (lt-ltb e.length (2 ^ 64) length_fits))
    (lt-ltb 0 e.versions (omega (arith, h.count, some))))
    (le-leb e.versions e.length (omega (arith, h.count, long))))
    (le-leb (length e.first) max_key (subst (λ (k : List ℕ). length k ≤ max_key) (sym h.first) (first_short vs fits))))
    (le-leb (length e.last) max_key (subst (λ (k : List ℕ). length k ≤ max_key) (sym h.last) (last_short [] vs (omega arith) fits))))
    (ap₂ (λ (a b : List ℕ). not (below a b)) h.last h.first ∙ ap not (keys_rise vs ordered)))
    (lt-ltb e.least (2 ^ 64) (subst (λ (t : ℕ). t < 2 ^ 64) (sym h.least) (least_fits vs fits))))
    (lt-ltb e.greatest (2 ^ 64) (subst (λ (t : ℕ). t < 2 ^ 64) (sym h.greatest) (greatest_early 0 vs (omega arith) fits)))

-- ---- the entries of a table

abbrev IsFitting : Extent → Type 0
IsFitting e = (e.place < 2 ^ 64) × (e.length < 2 ^ 64)

entries_lawful : (image : List ℕ) (layout : List Leaf) (es : List BundleEntry) (bs : List (List RowVersion)) → BundlesStand image layout es bs → IsTrue (list_all (λ b. nat_lt 0 (length b)) bs) → IsTrue (is_ordered (flat_map (λ b. b) bs))
    → AllByRecursion IsFit (flat_map (λ b. b) bs) → AllByRecursion IsFitting (map entry_extent es) → IsTrue (list_all is_entry es)
entries_lawful image layout [] [] h some ordered fits places = refl
entries_lawful image layout (e ∷ es) (b ∷ bs) h some ordered fits places =
    let p = and_parts (nat_lt 0 (length b)) (list_all (λ b. nat_lt 0 (length b)) bs) some in
    let rest : List RowVersion = flat_map (λ b. b) bs in
    and_from _ _ (entry_lawful image layout e b h.0 (ltb-true 0 (length b) p.0) (ordered_front b rest ordered) (all_front IsFit b rest fits) places.0.0 places.0.1)
    (entries_lawful image layout es bs h.1 p.1 (ordered_rest b rest ordered) (all_rest IsFit b rest fits) places.1)
entries_lawful image layout [] (b ∷ bs) h some ordered fits places = absurd h
entries_lawful image layout (e ∷ es) [] h some ordered fits places = absurd h

as_many : (image : List ℕ) (layout : List Leaf) (es : List BundleEntry) (bs : List (List RowVersion)) → BundlesStand image layout es bs → length es ≡ length bs
as_many image layout [] [] h = refl
as_many image layout (e ∷ es) (b ∷ bs) h = ap suc (as_many image layout es bs h.1)
as_many image layout [] (b ∷ bs) h = absurd h
as_many image layout (e ∷ es) [] h = absurd h

rise_as : (image : List ℕ) (layout : List Leaf) (es : List BundleEntry) (bs : List (List RowVersion)) → BundlesStand image layout es bs → entries_rise es ≡ entries_rise (map bare_entry bs)
rise_as image layout [] [] h = refl
rise_as image layout (e ∷ []) (b ∷ []) h = refl
rise_as image layout (e ∷ f ∷ es) (b ∷ c ∷ bs) h = ap₂ (λ (x y : Bool). x && y) (ap₂ below h.0.last h.1.0.first) (rise_as image layout (f ∷ es) (c ∷ bs) h.1)
rise_as image layout [] (b ∷ bs) h = absurd h
rise_as image layout (e ∷ es) [] h = absurd h
rise_as image layout (e ∷ []) (b ∷ c ∷ bs) h = absurd h.1
rise_as image layout (e ∷ f ∷ es) (b ∷ []) h = absurd h.1

table_lawful : (image : List ℕ) (cat : Catalogue) (i : TableIndex) (d : TableDelta) → IsLawfulTable cat d → d.layout ≡ i.layout → BundlesStand image i.layout i.entries d.bundles → length i.layout < 2 ^ 32 → length i.entries < 2 ^ 64
    → AllByRecursion IsFitting (map entry_extent i.entries) → IsTableIndex i
table_lawful image cat i d l same h few many places =
    let p = and_parts (nat_lt 0 (length d.bundles) && list_all (λ b. nat_lt 0 (length b)) d.bundles) (entries_rise (map bare_entry d.bundles)) l.bundles in
    let q = and_parts (nat_lt 0 (length d.bundles)) (list_all (λ b. nat_lt 0 (length b)) d.bundles) p.0 in
    let vs : List RowVersion = flat_map (λ b. b) d.bundles in
    let fits = all_map (λ v. IsTrue (is_version d.layout v)) IsFit vs (fit d.layout) l.versions.each in
    record {
      layout = subst IsLayout same l.layout;
      few = lt-ltb (length i.layout) (2 ^ 32) few;
      entries = and_from _ _ (and_from _ _ (and_from _ _ (ap (nat_lt 0) (as_many image i.layout i.entries d.bundles h) ∙ q.0) (lt-ltb (length i.entries) (2 ^ 64) many))
          (entries_lawful image i.layout i.entries d.bundles h q.1 l.versions.ordered fits places)) (rise_as image i.layout i.entries d.bundles h ∙ p.1);
    }

tables_lawful : (image : List ℕ) (cat : Catalogue) (is : List TableIndex) (ds : List TableDelta) → AllByRecursion (IsLawfulTable cat) ds → TablesStand image is ds → AllByRecursion (λ t. length t.layout < 2 ^ 32) is
    → AllByRecursion (λ t. length t.entries < 2 ^ 64) is → AllByRecursion IsFitting (table_extents is) → AllByRecursion IsTableIndex is
tables_lawful image cat [] [] l h few many places = tt
tables_lawful image cat (i ∷ is) (d ∷ ds) l h few many places = (
  table_lawful image cat i d l.0 h.1 h.2 few.0 many.0 (all_front IsFitting (map entry_extent i.entries) (table_extents is) places),
  tables_lawful image cat is ds l.1 h.3 few.1 many.1 (all_rest IsFitting (map entry_extent i.entries) (table_extents is) places),
)
tables_lawful image cat [] (d ∷ ds) l h few many places = absurd h
tables_lawful image cat (i ∷ is) [] l h few many places = absurd h

-- ---- the numbers of its tables

numbers_same : (image : List ℕ) (is : List TableIndex) (ds : List TableDelta) → TablesStand image is ds → map (λ (i : TableIndex). i.table) is ≡ map (λ (d : TableDelta). d.table) ds
numbers_same image [] [] h = refl
numbers_same image (i ∷ is) (d ∷ ds) h = ap₂ (λ (n : ℕ) (ns : List ℕ). n ∷ ns) (sym h.0) (numbers_same image is ds h.3)
numbers_same image [] (d ∷ ds) h = absurd h
numbers_same image (i ∷ is) [] h = absurd h

numbers_low : (image : List ℕ) (cat : Catalogue) (is : List TableIndex) (ds : List TableDelta) → IsCatalogue cat → AllByRecursion (IsLawfulTable cat) ds → TablesStand image is ds → AllByRecursion (λ (i : TableIndex). i.table < 2 ^ 16) is
numbers_low image cat [] [] is l h = tt
numbers_low image cat (i ∷ is) (d ∷ ds) c l h =
    let number : l.0.table.number ≡ d.table = its_number cat d.table l.0.table l.0.known in
    let low = ltb-true l.0.table.number (2 ^ 16) (and_parts (nat_lt 0 l.0.table.number) (nat_lt l.0.table.number (2 ^ 16)) (fine_table cat d.table l.0.table c l.0.known).number).1 in
    (omega (arith, low, number, h.0), numbers_low image cat is ds c l.1 h.3)
numbers_low image cat [] (d ∷ ds) c l h = absurd h
numbers_low image cat (i ∷ is) [] c l h = absurd h

-- numbers that rise below a bound are at most as many
few_above : (low high : ℕ) (is : List TableIndex) → low < high → IsTrue (rises_above low (map (λ i. i.table) is)) → AllByRecursion (λ i. i.table < high) is → length is + low < high
few_above low high [] less rise below_high = omega (arith, less)
few_above low high (i ∷ is) less rise below_high =
    let p = and_parts (nat_lt low i.table) (rises_above i.table (map (λ i. i.table) is)) rise in
    omega (arith, ltb-true low i.table p.0, few_above i.table high is below_high.0 p.1 below_high.1)

few_tables : (is : List TableIndex) → IsTrue (rises_strictly (map (λ i. i.table) is)) → AllByRecursion (λ i. i.table < 2 ^ 16) is → length is < 2 ^ 32
few_tables [] rise low = omega arith
few_tables (i ∷ is) rise low = omega (arith, few_above i.table (2 ^ 16) is low.0 rise low.1)

index_lawful : (image : List ℕ) (cat : Catalogue) (is : List TableIndex) (x : Delta) → IsCatalogue cat → AreLawfulTables cat x → TablesStand image is x.tables → FitsIndex is → IsIndex is (index_bytes is)
index_lawful image cat is x c l h f =
    let low = numbers_low image cat is x.tables c l.1 h in
    let rise : IsTrue (rises_strictly (map (λ i. i.table) is)) = ap rises_strictly (numbers_same image is x.tables h) ∙ l.0 in
    let lows = all_map (λ (i : TableIndex). i.table < 2 ^ 16) (λ (i : TableIndex). IsTrue (nat_lt i.table (2 ^ 32))) is (λ i less. lt-ltb i.table (2 ^ 32) (omega (arith, less))) low in record {
      tables = and_from _ _ (and_from _ _ rise (lt-ltb (length is) (2 ^ 32) (few_tables is rise low))) (tests_hold (λ (i : TableIndex). nat_lt i.table (2 ^ 32)) is lows);
      each = tables_lawful image cat is x.tables l.1 h f.layouts f.counts (all_front IsFitting (table_extents is) [] f.extents);
      spells = refl;
    }

pub written : (image : List ℕ) (cat : Catalogue) (k : Shelved) (x : Delta) → IsCatalogue cat → AreLawfulTables cat x → x.id ≡ k.id → TablesStand image k.index x.tables → FitsIndex k.index → bytes_in image k.extent ≡ index_bytes k.index
    → DeltaStands image k x
written image cat k x c l same h f bytes = record { id = same; index = subst (IsIndex k.index) (sym bytes) (index_lawful image cat k.index x c l h f); tables = h }
