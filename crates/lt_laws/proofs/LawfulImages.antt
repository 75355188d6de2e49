-- What an image holds is lawful: its bundles, one behind the other, are one ordered list, and its manifest goes by the deltas' ids alone.
use Rattle.std.proofs.Common.{Bool, List, [], ap, append-nil, ap₂, arith, length, lt-ltb, refl, subst, suc, sym, ℕ, ◌++◌, ◌<◌, ◌∙◌, ◌∷◌, ◌≡◌}
use Rattle.std.specs.Prelude.{IsTrue, Some, flat_map, map, nat_le, nat_lt, ◌&&◌, ◌==◌, ◌^◌}
use Rattle.std.proofs.lemmas.Bool.{and_from, and_parts}
use Rattle.std.specs.List.{AllByRecursion, list_all, list_any}
use Rattle.std.proofs.lemmas.List.{length-map}
use Rattle.lt_terms.specs.Key.{below, max_key, same_key, tile}
use Rattle.lt_terms.specs.Layout.{Leaf}
use Rattle.lt_terms.specs.Value.{rises_strictly}
use Rattle.lt_terms.specs.declared.Extent.{Extent}
use Rattle.lt_world.specs.Slots.{is_root}
use Rattle.lt_tables.specs.Version.{AreVersions, RowVersion, is_ordered, is_version, stands_before}
use Rattle.lt_tables.specs.Schema.{Catalogue, Table, table_numbered}
use Rattle.lt_tables.specs.Pump.{Part}
use Rattle.lt_storage.specs.Store.{AreLawfulTables, BundleEntry, Delta, HasBundles, HasDeltas, HasTables, HoldsLawful, IsIndex, IsKeyBytes, IsLawfulManifest, IsLawfulPart, IsLawfulTable, IsTableIndex, Manifest, TableDelta, TableIndex, bare_entry, entries_rise, fits_63, is_covered, is_delta_entry, is_entry, is_part_entry, last_key}
use Rattle.lt_codecs.proofs.ListFacts.{all_both, all_map, all_of_map, all_to_map}
use Rattle.lt_laws.proofs.ReadLaws.{all_tests}
use Rattle.lt_laws.proofs.ListFacts.{all_flat, any_mapped}
use Rattle.lt_laws.proofs.NewDelta.{tests_hold}
use Rattle.lt_laws.proofs.DurableFacts.{named_at}
use Rattle.lt_lemmas.proofs.SnapshotLaws.{or_left}

-- ---- bundles, one behind the other

-- two ordered lists, where the second begins above the end of the first
joined : (v : RowVersion) (vs : List RowVersion) (w : RowVersion) (ws : List RowVersion) → IsTrue (is_ordered (v ∷ vs)) → IsTrue (below (last_key (v ∷ vs)) w.key) → IsTrue (is_ordered (w ∷ ws)) → IsTrue (is_ordered ((v ∷ vs) ++ w ∷ ws))
joined v [] w ws o b r = and_from _ _ (or_left (below v.key w.key) (same_key v.key w.key && nat_lt w.ts v.ts) b) r
joined v (u ∷ vs) w ws o b r = let p = and_parts (stands_before v u) (is_ordered (u ∷ vs)) o in and_from _ _ p.0 (joined u vs w ws p.1 b r)

pub flat_ordered : (bs : List (List RowVersion)) → AllByRecursion (λ b. 0 < length b) bs → AllByRecursion (λ b. IsTrue (is_ordered b)) bs → IsTrue (entries_rise (map bare_entry bs)) → IsTrue (is_ordered (flat_map (λ b. b) bs))
flat_ordered [] some each rise = refl
flat_ordered (b ∷ []) some each rise = subst (λ (vs : List RowVersion). IsTrue (is_ordered vs)) (sym (append-nil b)) each.0
flat_ordered ([] ∷ c ∷ bs) some each rise = absurd (omega (arith, some.0))
flat_ordered ((v ∷ vs) ∷ [] ∷ bs) some each rise = absurd (omega (arith, some.1.0))
flat_ordered ((v ∷ vs) ∷ (w ∷ ws) ∷ bs) some each rise =
    let p = and_parts (below (last_key (v ∷ vs)) w.key) (entries_rise (map bare_entry ((w ∷ ws) ∷ bs))) rise in
    joined v vs w (ws ++ flat_map (λ b. b) bs) each.0 p.0 (flat_ordered ((w ∷ ws) ∷ bs) some.1 each.1 p.1)

-- ---- the bundles of a table

-- what a bundle in an image says of its versions
pub record IsLawfulBundle (t : Table) (layout : List Leaf) (vs : List RowVersion) : Type 0 where
  pub some : 0 < length vs
  pub lawful : AreVersions layout vs
  pub keys : AllByRecursion (λ v. IsKeyBytes t v.key) vs

pub bundles_lawful : (image : List ℕ) (t : Table) (layout : List Leaf) (es : List BundleEntry) (bs : List (List RowVersion)) → HasBundles image t layout es bs → AllByRecursion (IsLawfulBundle t layout) bs
bundles_lawful image t layout [] [] h = tt
bundles_lawful image t layout (e ∷ es) (b ∷ bs) h = (record { some = h.0.bundle.lawful.some; lawful = h.0.bundle.lawful.lawful; keys = h.0.keys }, bundles_lawful image t layout es bs h.1)
bundles_lawful image t layout [] (b ∷ bs) h = absurd h
bundles_lawful image t layout (e ∷ es) [] h = absurd h

bundles_length : (image : List ℕ) (t : Table) (layout : List Leaf) (es : List BundleEntry) (bs : List (List RowVersion)) → HasBundles image t layout es bs → length es ≡ length bs
bundles_length image t layout [] [] h = refl
bundles_length image t layout (e ∷ es) (b ∷ bs) h = ap suc (bundles_length image t layout es bs h.1)
bundles_length image t layout [] (b ∷ bs) h = absurd h
bundles_length image t layout (e ∷ es) [] h = absurd h

-- entries name the first and last keys, so they rise as the bundles do
bundles_rise : (image : List ℕ) (t : Table) (layout : List Leaf) (es : List BundleEntry) (bs : List (List RowVersion)) → HasBundles image t layout es bs → entries_rise es ≡ entries_rise (map bare_entry bs)
bundles_rise image t layout [] [] h = refl
bundles_rise image t layout (e ∷ []) (b ∷ []) h = refl
bundles_rise image t layout (e ∷ f ∷ es) (b ∷ c ∷ bs) h = ap₂ (λ (x y : Bool). x && y) (ap₂ below h.0.last h.1.0.first) (bundles_rise image t layout (f ∷ es) (c ∷ bs) h.1)
bundles_rise image t layout [] (b ∷ bs) h = absurd h
bundles_rise image t layout (e ∷ es) [] h = absurd h
bundles_rise image t layout (e ∷ []) (b ∷ c ∷ bs) h = absurd h.1
bundles_rise image t layout (e ∷ f ∷ es) (b ∷ []) h = absurd h.1

-- ---- the tables of a delta

abbrev under_index : TableIndex → List (List RowVersion) → TableDelta
under_index i bs = record { table = i.table; layout = i.layout; bundles = bs }

table_lawful : (image : List ℕ) (cat : Catalogue) (i : TableIndex) (bs : List (List RowVersion)) (t : Table) → IsTableIndex i → table_numbered cat i.table ≡ Some t → IsTrue (is_covered cat i.table i.layout) → HasBundles image t i.layout i.entries bs → IsLawfulTable cat (under_index i bs)
table_lawful image cat i bs t is known covered h =
    let a = bundles_lawful image t i.layout i.entries bs h in
    let some = all_map (IsLawfulBundle t i.layout) (λ b. 0 < length b) bs (λ b l. l.some) a in
    let e = and_parts (nat_lt 0 (length i.entries) && nat_lt (length i.entries) (2 ^ 64) && list_all is_entry i.entries) (entries_rise i.entries) is.entries in
    let many = and_parts (nat_lt 0 (length i.entries)) (nat_lt (length i.entries) (2 ^ 64)) (and_parts (nat_lt 0 (length i.entries) && nat_lt (length i.entries) (2 ^ 64)) (list_all is_entry i.entries) e.0).0 in
    let rise : IsTrue (entries_rise (map bare_entry bs)) = sym (bundles_rise image t i.layout i.entries bs h) ∙ e.1 in record {
      table = t;
      known = known;
      layout = is.layout;
      covered = covered;
      versions = record {
        ordered = flat_ordered bs some (all_map (IsLawfulBundle t i.layout) (λ b. IsTrue (is_ordered b)) bs (λ b l. l.lawful.ordered) a) rise;
        each = all_flat (λ v. IsTrue (is_version i.layout v)) bs (all_map (IsLawfulBundle t i.layout) (AllByRecursion (λ v. IsTrue (is_version i.layout v))) bs (λ b l. l.lawful.each) a);
      };
      keys = all_flat (λ v. IsKeyBytes t v.key) bs (all_map (IsLawfulBundle t i.layout) (AllByRecursion (λ v. IsKeyBytes t v.key)) bs (λ b l. l.keys) a);
      bundles = and_from _ _ (and_from _ _ (ap (nat_lt 0) (sym (bundles_length image t i.layout i.entries bs h)) ∙ many.0)
          (tests_hold (λ b. nat_lt 0 (length b)) bs (all_map (λ b. 0 < length b) (λ b. IsTrue (nat_lt 0 (length b))) bs (λ b l. lt-ltb 0 (length b) l) some))) rise;
    }

tables_lawful : (image : List ℕ) (cat : Catalogue) (is : List TableIndex) (ds : List TableDelta) → AllByRecursion IsTableIndex is → HasTables image cat is ds → AllByRecursion (IsLawfulTable cat) ds
tables_lawful image cat [] [] a h = tt
tables_lawful image cat (i ∷ is) (d ∷ ds) a h = (
  subst (IsLawfulTable cat) (ap₂ (λ (n : ℕ) (layout : List Leaf). let x : TableDelta = record { table = n; layout = layout; bundles = d.bundles } in x) (sym h.2) (sym h.3)) (table_lawful image cat i d.bundles h.0 a.0 h.1 h.4 h.5),
  tables_lawful image cat is ds a.1 h.6,
)
tables_lawful image cat [] (d ∷ ds) a h = absurd h
tables_lawful image cat (i ∷ is) [] a h = absurd h

table_numbers_same : (image : List ℕ) (cat : Catalogue) (is : List TableIndex) (ds : List TableDelta) → HasTables image cat is ds → map (λ (i : TableIndex). i.table) is ≡ map (λ (d : TableDelta). d.table) ds
table_numbers_same image cat [] [] h = refl
table_numbers_same image cat (i ∷ is) (d ∷ ds) h = ap₂ (λ (n : ℕ) (ns : List ℕ). n ∷ ns) (sym h.2) (table_numbers_same image cat is ds h.6)
table_numbers_same image cat [] (d ∷ ds) h = absurd h
table_numbers_same image cat (i ∷ is) [] h = absurd h

delta_lawful : (image : List ℕ) (cat : Catalogue) (is : List TableIndex) (bytes : List ℕ) (d : Delta) → IsIndex is bytes → HasTables image cat is d.tables → AreLawfulTables cat d
delta_lawful image cat is bytes d i h =
    let numbers = and_parts (rises_strictly (map (λ t. t.table) is)) (nat_lt (length is) (2 ^ 32)) (and_parts (rises_strictly (map (λ t. t.table) is) && nat_lt (length is) (2 ^ 32)) (list_all (λ t. nat_lt t.table (2 ^ 32)) is) i.tables).0 in
    (ap rises_strictly (sym (table_numbers_same image cat is d.tables h)) ∙ numbers.0, tables_lawful image cat is d.tables i.each h)

shelf_lawful : (image : List ℕ) (cat : Catalogue) (ms : List (ℕ × Extent)) (is : List (List TableIndex)) (ds : List Delta) → HasDeltas image cat ms is ds → AllByRecursion (AreLawfulTables cat) ds
shelf_lawful image cat [] [] [] h = tt
shelf_lawful image cat (m ∷ ms) (i ∷ is) (d ∷ ds) h = (delta_lawful image cat i _ d h.1 h.2, shelf_lawful image cat ms is ds h.3)
shelf_lawful image cat ms is ds h = absurd h

-- ---- the manifest

abbrev pub delta_ids : List (ℕ × Extent) → List ℕ
delta_ids ds = map (λ d. d.0) ds

abbrev pub IsPlaced : ℕ × Extent → Type 0
IsPlaced d = IsTrue (nat_lt d.1.place (2 ^ 64)) × IsTrue (nat_lt d.1.length (2 ^ 64))

abbrev pub with_deltas : Manifest → List (ℕ × Extent) → Manifest
with_deltas m ds = record m { deltas = ds }

part_replaced : (m : Manifest) (ds : List (ℕ × Extent)) (p : Part) → delta_ids m.deltas ≡ delta_ids ds → IsTrue (is_part_entry m p) → IsTrue (is_part_entry (with_deltas m ds) p)
part_replaced m ds p e h =
    let listed : List (ℕ × Extent) → ℕ → Bool = λ xs id. list_any (λ d. d.0 == id) xs && nat_lt id m.next_id in
    let q = and_parts (nat_le (length p.low) max_key && fits_63 p.resume && nat_le m.minimum p.resume && rises_strictly p.ids) (list_all (listed m.deltas) p.ids) h in
    let same = λ (id : ℕ). any_mapped (λ i. i == id) (λ (d : ℕ × Extent). d.0) m.deltas ∙ ap (list_any (λ i. i == id)) e ∙ sym (any_mapped (λ i. i == id) (λ (d : ℕ × Extent). d.0) ds) in
    and_from _ _ q.0 (tests_hold (listed ds) p.ids (all_map (λ id. IsTrue (listed m.deltas id)) (λ id. IsTrue (listed ds id)) p.ids (λ id t. ap (λ (b : Bool). b && nat_lt id m.next_id) (sym (same id)) ∙ t) (all_tests (listed m.deltas) p.ids q.1)))

-- an id that fits, which some partition lists
abbrev IsListed : Manifest → ℕ → Type 0
IsListed m id = IsTrue (nat_lt id (2 ^ 64)) × IsTrue (list_any (λ p. list_any (λ i. i == id) p.ids) m.parts)

entry_listed : (m : Manifest) (d : ℕ × Extent) → IsTrue (is_delta_entry m d) → IsListed m d.0
entry_listed m d h =
    let p = and_parts (nat_lt d.0 (2 ^ 64) && nat_lt d.1.place (2 ^ 64) && nat_lt d.1.length (2 ^ 64)) (list_any (λ p. list_any (λ id. id == d.0) p.ids) m.parts) h in
    let q = and_parts (nat_lt d.0 (2 ^ 64) && nat_lt d.1.place (2 ^ 64)) (nat_lt d.1.length (2 ^ 64)) p.0 in
    ((and_parts (nat_lt d.0 (2 ^ 64)) (nat_lt d.1.place (2 ^ 64)) q.0).0, p.1)

-- A lawful manifest stays lawful where its deltas stand at other places.
pub manifest_replaced : (m : Manifest) (ds : List (ℕ × Extent)) → delta_ids m.deltas ≡ delta_ids ds → AllByRecursion IsPlaced ds → IsLawfulManifest m → IsLawfulManifest (with_deltas m ds)
manifest_replaced m ds e placed l =
    let parts = and_parts (tile (map (λ p. p.low) m.parts) && nat_le (length m.parts) 1024) (list_all (is_part_entry m) m.parts) l.parts in
    let deltas = and_parts (rises_strictly (delta_ids m.deltas) && nat_le (length m.deltas) 4096) (list_all (is_delta_entry m) m.deltas) l.deltas in
    let few = and_parts (rises_strictly (delta_ids m.deltas)) (nat_le (length m.deltas) 4096) deltas.0 in
    let as_long : length ds ≡ length m.deltas = sym (length-map ds (λ d. d.0)) ∙ ap length (sym e) ∙ length-map m.deltas (λ d. d.0) in
    let listed = all_of_map (IsListed m) (λ (d : ℕ × Extent). d.0) ds (subst (AllByRecursion (IsListed m)) e (all_to_map (IsListed m) (λ (d : ℕ × Extent). d.0) m.deltas
    (all_map (λ d. IsTrue (is_delta_entry m d)) (λ d. IsListed m d.0) m.deltas (entry_listed m) (all_tests (is_delta_entry m) m.deltas deltas.1)))) in record {
      limit = l.limit;
      numbers = l.numbers;
      catalogue = l.catalogue;
      streams = l.streams;
      parts = and_from _ _ parts.0 (tests_hold (is_part_entry (with_deltas m ds)) m.parts (all_map (λ p. IsTrue (is_part_entry m p)) (λ p. IsTrue (is_part_entry (with_deltas m ds) p)) m.parts (λ p h. part_replaced m ds p e h) (all_tests (is_part_entry m) m.parts parts.1)));
      deltas = and_from _ _ (and_from _ _ (ap rises_strictly (sym e) ∙ few.0) (ap (λ n. nat_le n 4096) as_long ∙ few.1))
          (tests_hold (is_delta_entry (with_deltas m ds)) ds (all_both (λ d. IsListed m d.0) IsPlaced (λ d. IsTrue (is_delta_entry (with_deltas m ds) d)) ds (λ d h p. and_from _ _ (and_from _ _ (and_from _ _ h.0 p.0) p.1) h.1) listed placed));
    }

deltas_same : (image : List ℕ) (cat : Catalogue) (ms : List (ℕ × Extent)) (is : List (List TableIndex)) (ds : List Delta) → HasDeltas image cat ms is ds → delta_ids ms ≡ delta_ids (map named_at ds)
deltas_same image cat [] [] [] h = refl
deltas_same image cat (m ∷ ms) (i ∷ is) (d ∷ ds) h = ap₂ (λ (n : ℕ) (ns : List ℕ). n ∷ ns) (sym h.0) (deltas_same image cat ms is ds h.3)
deltas_same image cat ms is ds h = absurd h

nowhere : (ds : List Delta) → AllByRecursion IsPlaced (map named_at ds)
nowhere [] = tt
nowhere (d ∷ ds) = ((refl, refl), nowhere ds)

-- ---- the durable part

pub generation_fits : (generation place len : ℕ) → IsTrue (is_root generation place len) → IsTrue (nat_lt 0 generation && nat_lt generation (2 ^ 64))
generation_fits generation place len h =
    let a = and_parts _ (nat_lt len (2 ^ 64)) h in
    let b = and_parts _ (nat_lt 0 len) a.0 in
    let c = and_parts _ (nat_lt place (2 ^ 64)) b.0 in
    (and_parts (nat_lt 0 generation && nat_lt generation (2 ^ 64)) (nat_le 1024 place) c.0).0

pub holds_lawful : HoldsLawful
holds_lawful image d (l, h) =
    let m = l.manifest in
    subst IsLawfulPart (sym h.durable) (record {
      generation = generation_fits l.root.generation l.root.place l.root.length h.root.is_slot.lawful;
      manifest = manifest_replaced m (map named_at d.shelf) (deltas_same image m.catalogue m.deltas l.indexes d.shelf h.deltas) (nowhere d.shelf) h.manifest.lawful;
      shelf = shelf_lawful image m.catalogue m.deltas l.indexes d.shelf h.deltas;
    })
