-- The store: what it holds, and the bytes that spell it.
use Rattle.std.specs.Prelude.{Bool, Contains, IsTrue, List, Option, Some, [], codes, false, filter_map, find, flat_map, fold, length, map, nat_le, nat_lt, not, true, ℕ, ⊤, ◌&&◌, ◌++◌, ◌+◌, ◌==◌, ◌^◌, ◌||◌, ◌∷◌, ◌≡◌, ◌⊎◌}
use Rattle.std.specs.Option.{option_map_or}
use Rattle.std.specs.List.{AllByRecursion, list_all, list_any}
use Rattle.lt_terms.specs.Layout.{Leaf, layout_of, same_leaf}
use Rattle.lt_terms.specs.Key.{KeyPart, Range, below, is_below_high, is_empty_range, is_key_of, key_bytes, max_key, ranges_from, rise, tile}
use Rattle.lt_terms.specs.declared.Extent.{Extent}
use Rattle.lt_terms.specs.Log.{bit, bytes16, optional, u16, u32, u64, value_bytes}
use Rattle.lt_terms.specs.Kind.{FieldKinds, Kind, enumeration, field_kind, nesting, no_kinds, plain, rank_number, structured}
use Rattle.lt_terms.specs.Value.{is_number, rises_above, rises_strictly}
use Rattle.lt_terms.specs.declared.Root.{Root}
use Rattle.lt_world.specs.Disk.{bytes_in}
use Rattle.lt_world.specs.Slots.{CountsAsRoot}
use Rattle.lt_world.specs.Extents.{are_apart, end_of}
use Rattle.lt_tables.specs.Version.{AreVersions, RowVersion, clip, coerce_all, greatest_ts, least_ts, merge}
use Rattle.lt_tables.specs.Fair.{Point}
use Rattle.lt_tables.specs.Pump.{Part}
use Rattle.lt_tables.specs.Schema.{Catalogue, Column, IsCatalogue, Registered, Table, carriers, column_live, field_numbers, has_column, key_kind_byte, key_kinds, table_numbered}
use Rattle.lt_storage.specs.Bundle.{IsBundle, bundle_bytes, i32}

-- ---- the durable part

-- a delta's versions of one table, under one layout, in bundles
pub record TableDelta : Type 0 where
  pub table : ℕ
  pub layout : List Leaf
  pub bundles : List (List RowVersion)

pub record Delta : Type 0 where
  pub id : ℕ
  pub tables : List TableDelta

-- a stream: its low bound, and its restart points by rising offset
pub record Stream : Type 0 where
  pub low : List ℕ
  pub points : List (ℕ × Point)

-- the shelf has the deltas by rising id
pub record Durable : Type 0 where
  pub limit : ℕ
  pub generation : ℕ
  pub catalogue : Catalogue
  pub minimum : ℕ
  pub next_id : ℕ
  pub parts : List Part
  pub streams : List Stream
  pub shelf : List Delta

abbrev pub delta_with : List Delta → ℕ → Option Delta
delta_with shelf id = find (λ d. d.id == id) shelf

-- a delta's versions of a table, and the layout that they are under
abbrev pub table_of : Delta → ℕ → Option TableDelta
table_of d table = find (λ t. t.table == table) d.tables

abbrev pub versions_in : TableDelta → List RowVersion
versions_in t = flat_map (λ b. b) t.bundles

abbrev pub all_versions : Delta → List RowVersion
all_versions d = flat_map versions_in d.tables

-- a delta's versions of a table, under the carriers of a catalogue
abbrev pub carried_versions : Catalogue → ℕ → Delta → List RowVersion
carried_versions cat table d = option_map_or (λ t. coerce_all t.layout (carriers cat table) (versions_in t)) (table_of d table) []

abbrev pub deltas_of : List Delta → List ℕ → List Delta
deltas_of shelf ids = filter_map (delta_with shelf) ids

-- the deltas' versions of a table in a range, merged by rising id, under the carriers
abbrev pub merged_in : Catalogue → List Delta → List ℕ → Range → ℕ → List RowVersion
merged_in cat shelf ids r table = clip r (merge (map (carried_versions cat table) (deltas_of shelf ids)))

-- the range of each partition
abbrev pub part_ranges : List Part → List Range
part_ranges ps = ranges_from (map (λ p. p.low) ps)

-- what a partition with a range has stored of a table
abbrev pub stored : Durable → Part → Range → ℕ → List RowVersion
stored d p r table = merged_in d.catalogue d.shelf p.ids r table

-- ---- manifest

pub record Manifest : Type 0 where
  pub limit : ℕ
  pub minimum : ℕ
  pub next_id : ℕ
  pub catalogue : Catalogue
  pub streams : List Stream
  pub parts : List Part
  pub deltas : List (ℕ × Extent)

-- a count, and then each
abbrev pub counted32 : {A : Type 0} → (A → List ℕ) → List A → List ℕ
counted32 spell xs = u32 (length xs) ++ flat_map spell xs

abbrev pub counted16 : {A : Type 0} → (A → List ℕ) → List A → List ℕ
counted16 spell xs = u16 (length xs) ++ flat_map spell xs

abbrev pub counted8 : {A : Type 0} → (A → List ℕ) → List A → List ℕ
counted8 spell xs = length xs ∷ flat_map spell xs

abbrev mutual
  pub kind_bytes : Kind → List ℕ
  kind_bytes (plain r) = rank_number r ∷ []
  kind_bytes (enumeration names) = 6 ∷ counted16 (λ n. i32 n.0 ++ bytes16 n.1) names
  kind_bytes (structured ks) = 7 ∷ (u16 (length (field_numbers ks)) ++ field_kind_bytes ks)

  pub field_kind_bytes : FieldKinds → List ℕ
  field_kind_bytes no_kinds = []
  field_kind_bytes (field_kind n name k ks) = u16 n ++ (bytes16 name ++ (kind_bytes k ++ field_kind_bytes ks))

abbrev pub column_bytes : Column → List ℕ
column_bytes c = u16 c.number ++ (bytes16 c.name ++ (kind_bytes c.kind ++ optional value_bytes c.fallback))

abbrev pub version_bytes : Registered → List ℕ
version_bytes r = bit r.live ∷ counted16 column_bytes r.columns

abbrev pub table_bytes : Table → List ℕ
table_bytes t = u32 t.number ++ (bytes16 t.name ++ (counted8 (λ k. bytes16 k.name ++ key_kind_byte k.kind ∷ []) t.key ++ counted16 version_bytes t.versions))

abbrev pub point_bytes : ℕ × Point → List ℕ
point_bytes p = u64 p.0 ++ (u64 p.1.checkpoint ++ (u64 p.1.greatest ++ counted32 (λ w. bytes16 w.0 ++ u64 w.1) p.1.window))

abbrev pub stream_entry_bytes : Stream → List ℕ
stream_entry_bytes s = bytes16 s.low ++ counted8 point_bytes s.points

abbrev pub part_entry_bytes : Part → List ℕ
part_entry_bytes p = bytes16 p.low ++ (u64 p.resume ++ counted32 u64 p.ids)

abbrev pub delta_entry_bytes : ℕ × Extent → List ℕ
delta_entry_bytes d = u64 d.0 ++ (u64 d.1.place ++ u64 d.1.length)

unfoldable pub manifest_bytes : Manifest → List ℕ
manifest_bytes m = codes "LTM1" ++ (u64 m.limit ++ (u64 m.minimum ++ (u64 m.next_id ++ (counted32 table_bytes m.catalogue
    ++ (counted32 stream_entry_bytes m.streams ++ (counted32 part_entry_bytes m.parts ++ counted32 delta_entry_bytes m.deltas))))))

-- the store file has 2^20 to 2^40 bytes
abbrev pub is_limit : ℕ → Bool
is_limit n = nat_le (2 ^ 20) n && nat_le n (2 ^ 40)

abbrev pub fits_63 : ℕ → Bool
fits_63 n = nat_lt n (2 ^ 63)

abbrev pub is_point : Point → Bool
is_point p = fits_63 p.checkpoint && fits_63 p.greatest && nat_le (length p.window) 1024 && rise (map (λ w. w.0) p.window)
    && list_all (λ w. fits_63 w.1 && nat_le (length w.0) max_key) p.window

abbrev pub is_stream_entry : Stream → Bool
is_stream_entry s = nat_le (length s.low) max_key && nat_le (length s.points) 4 && rises_strictly (map (λ p. p.0) s.points) && list_all (λ p. nat_lt p.0 (2 ^ 64) && is_point p.1) s.points

abbrev pub is_part_entry : Manifest → Part → Bool
is_part_entry m p = nat_le (length p.low) max_key && fits_63 p.resume && nat_le m.minimum p.resume && rises_strictly p.ids
    && list_all (λ id. list_any (λ d. d.0 == id) m.deltas && nat_lt id m.next_id) p.ids

abbrev pub is_delta_entry : Manifest → ℕ × Extent → Bool
is_delta_entry m d = nat_lt d.0 (2 ^ 64) && nat_lt d.1.place (2 ^ 64) && nat_lt d.1.length (2 ^ 64) && list_any (λ p. list_any (λ id. id == d.0) p.ids) m.parts

pub record IsLawfulManifest (m : Manifest) : Type 0 where
  pub limit : IsTrue (is_limit m.limit)
  pub numbers : IsTrue (nat_lt m.minimum (2 ^ 64) && nat_lt m.next_id (2 ^ 64))
  pub catalogue : IsCatalogue m.catalogue
  pub streams : IsTrue (nat_lt 0 (length m.streams) && nat_le (length m.streams) 64 && list_all is_stream_entry m.streams)
  pub parts : IsTrue (tile (map (λ p. p.low) m.parts) && nat_le (length m.parts) 1024 && list_all (is_part_entry m) m.parts)
  pub deltas : IsTrue (rises_strictly (map (λ d. d.0) m.deltas) && nat_le (length m.deltas) 4096 && list_all (is_delta_entry m) m.deltas)

pub record IsManifest (m : Manifest) (bytes : List ℕ) : Type 0 where
  pub lawful : IsLawfulManifest m
  pub spells : bytes ≡ manifest_bytes m

-- ---- index

pub record BundleEntry : Type 0 where
  pub place : ℕ
  pub length : ℕ
  pub versions : ℕ
  pub first : List ℕ
  pub last : List ℕ
  pub least : ℕ
  pub greatest : ℕ

pub record TableIndex : Type 0 where
  pub table : ℕ
  pub layout : List Leaf
  pub entries : List BundleEntry

abbrev pub leaf_entry_bytes : Leaf → List ℕ
leaf_entry_bytes l = u16 l.column ++ (counted8 u16 l.path ++ rank_number l.rank ∷ bit l.presence ∷ [])

abbrev pub entry_bytes : BundleEntry → List ℕ
entry_bytes e = u64 e.place ++ (u64 e.length ++ (u64 e.versions ++ (bytes16 e.first ++ (bytes16 e.last ++ (u64 e.least ++ u64 e.greatest)))))

abbrev pub table_index_bytes : TableIndex → List ℕ
table_index_bytes t = u32 t.table ++ (counted32 leaf_entry_bytes t.layout ++ (u64 (length t.entries) ++ flat_map entry_bytes t.entries))

unfoldable pub index_bytes : List TableIndex → List ℕ
index_bytes ts = codes "LTI1" ++ counted32 table_index_bytes ts

-- a layout is that of columns whose numbers rise, with kinds in which structs nest at most 4 deep and field numbers rise
abbrev mutual
  pub is_store_kind : Kind → Bool
  is_store_kind (plain r) = true
  is_store_kind (enumeration names) = false
  is_store_kind (structured ks) = are_store_kinds 0 ks

  pub are_store_kinds : ℕ → FieldKinds → Bool
  are_store_kinds before no_kinds = true
  are_store_kinds before (field_kind n name k ks) = is_number n && nat_lt before n && is_store_kind k && are_store_kinds n ks

abbrev pub IsLayout : List Leaf → Type 0
IsLayout layout = (columns : List (ℕ × Kind)) × (layout ≡ layout_of columns)
    × IsTrue (rises_above 0 (map (λ c. c.0) columns) && list_all (λ c. is_number c.0 && is_store_kind c.1 && nat_le (nesting c.1) 4) columns)

abbrev pub entries_rise : List BundleEntry → Bool
entries_rise [] = true
entries_rise (e ∷ []) = true
entries_rise (e ∷ f ∷ es) = below e.last f.first && entries_rise (f ∷ es)

abbrev pub is_entry : BundleEntry → Bool
is_entry e = nat_lt e.place (2 ^ 64) && nat_lt e.length (2 ^ 64) && nat_lt 0 e.versions && nat_le e.versions e.length && nat_le (length e.first) max_key && nat_le (length e.last) max_key
    && not (below e.last e.first) && nat_lt e.least (2 ^ 64) && nat_lt e.greatest (2 ^ 64)

pub record IsTableIndex (t : TableIndex) : Type 0 where
  pub layout : IsLayout t.layout
  pub few : IsTrue (nat_lt (length t.layout) (2 ^ 32))
  pub entries : IsTrue (nat_lt 0 (length t.entries) && nat_lt (length t.entries) (2 ^ 64) && list_all is_entry t.entries && entries_rise t.entries)

pub record IsIndex (ts : List TableIndex) (bytes : List ℕ) : Type 0 where
  pub tables : IsTrue (rises_strictly (map (λ t. t.table) ts) && nat_lt (length ts) (2 ^ 32) && list_all (λ t. nat_lt t.table (2 ^ 32)) ts)
  pub each : AllByRecursion IsTableIndex ts
  pub spells : bytes ≡ index_bytes ts

-- the entries of a table whose key interval meets a range
abbrev pub entry_meets : Range → BundleEntry → Bool
entry_meets r e = not (is_empty_range r) && not (below e.last r.low) && is_below_high e.first r.high

-- ---- extents

abbrev pub entry_extent : BundleEntry → Extent
entry_extent e = record { place = e.place; length = e.length }

-- ---- what an image holds

-- each column of a layout is one of some registered version, and each live column's leaf stands in the carriers at the same
-- path, with the same presence and at least its rank
abbrev pub leaf_covered : Catalogue → ℕ → Leaf → Bool
leaf_covered cat table l = option_map_or (λ t. list_any (has_column l.column) t.versions && (not (column_live t l.column)
    || list_any (λ k. same_leaf k l && (bit k.presence == bit l.presence) && nat_le (rank_number l.rank) (rank_number k.rank)) (carriers cat table))) (table_numbered cat table) false

abbrev pub is_covered : Catalogue → ℕ → List Leaf → Bool
is_covered cat table layout = list_all (leaf_covered cat table) layout

abbrev pub last_key : List RowVersion → List ℕ
last_key vs = fold (λ k v. v.key) [] vs

abbrev pub first_key : List RowVersion → List ℕ
first_key [] = []
first_key (v ∷ vs) = v.key

-- the key is one of the table's kinds
abbrev pub IsKeyBytes : Table → List ℕ → Type 0
IsKeyBytes t key = (parts : List KeyPart) × IsTrue (is_key_of (key_kinds t.key) parts) × (key ≡ key_bytes t.number parts)

-- the image has a bundle where its entry says, of these versions
pub record HasBundle (image : List ℕ) (t : Table) (layout : List Leaf) (e : BundleEntry) (vs : List RowVersion) : Type 0 where
  pub bundle : IsBundle t.number layout vs (bytes_in image (entry_extent e))
  pub count : e.versions ≡ length vs
  pub first : e.first ≡ first_key vs
  pub last : e.last ≡ last_key vs
  pub least : e.least ≡ least_ts vs
  pub greatest : e.greatest ≡ greatest_ts vs
  pub keys : AllByRecursion (λ v. IsKeyBytes t v.key) vs

abbrev pub HasBundles : List ℕ → Table → List Leaf → List BundleEntry → List (List RowVersion) → Type 0
HasBundles image t layout [] [] = ⊤
HasBundles image t layout (e ∷ es) (b ∷ bs) = HasBundle image t layout e b × HasBundles image t layout es bs
HasBundles image t layout [] (b ∷ bs) = ⊥
HasBundles image t layout (e ∷ es) [] = ⊥

abbrev pub HasTables : List ℕ → Catalogue → List TableIndex → List TableDelta → Type 0
HasTables image cat [] [] = ⊤
HasTables image cat (i ∷ is) (d ∷ ds) = (t : Table) × (table_numbered cat i.table ≡ Some t) × (d.table ≡ i.table) × (d.layout ≡ i.layout) × IsTrue (is_covered cat i.table i.layout)
    × HasBundles image t i.layout i.entries d.bundles × HasTables image cat is ds
HasTables image cat [] (d ∷ ds) = ⊥
HasTables image cat (i ∷ is) [] = ⊥

-- the deltas of a manifest, each with its index and bundles
abbrev pub HasDeltas : List ℕ → Catalogue → List (ℕ × Extent) → List (List TableIndex) → List Delta → Type 0
HasDeltas image cat [] [] [] = ⊤
HasDeltas image cat (m ∷ ms) (i ∷ is) (d ∷ ds) = (d.id ≡ m.0) × IsIndex i (bytes_in image m.1) × HasTables image cat i d.tables × HasDeltas image cat ms is ds
HasDeltas image cat ms is ds = ⊥

abbrev pub bundle_extents : List (List TableIndex) → List Extent
bundle_extents is = flat_map (λ i. flat_map (λ t. map entry_extent t.entries) i) is

-- where everything stands that an image holds
pub record Placing : Type 0 where
  pub root : Root
  pub manifest : Manifest
  pub indexes : List (List TableIndex)

abbrev pub root_extent : Root → Extent
root_extent r = record { place = r.place; length = r.length }

abbrev pub extents_of : Placing → List Extent
extents_of l = root_extent l.root ∷ (map (λ d. d.1) l.manifest.deltas ++ bundle_extents l.indexes)

abbrev pub durable_of : Placing → List Delta → Durable
durable_of l shelf = record {
  limit = l.manifest.limit;
  generation = l.root.generation;
  catalogue = l.manifest.catalogue;
  minimum = l.manifest.minimum;
  next_id = l.manifest.next_id;
  parts = l.manifest.parts;
  streams = l.manifest.streams;
  shelf = shelf;
}

-- What the durable part names stands in the image, whichever root counts there: the manifest, the indexes and the bundles.
pub record HasPlaced (d : Durable) (l : Placing) (image : List ℕ) : Type 0 where
  pub manifest : IsManifest l.manifest (bytes_in image (root_extent l.root))
  pub deltas : HasDeltas image l.manifest.catalogue l.manifest.deltas l.indexes d.shelf
  pub durable : d ≡ durable_of l d.shelf

-- an extent that a durable part names, where what stands there is not what it says
pub record HurtBundle (image : List ℕ) (cat : Catalogue) (l : Placing) (e : Extent) : Type 0 where
  pub index : List TableIndex
  pub known : Contains l.indexes index
  pub of_table : TableIndex
  pub in_index : Contains index of_table
  pub entry : BundleEntry
  pub in_table : Contains of_table.entries entry
  pub place : entry_extent entry ≡ e
  pub hurt : (t : Table) (vs : List RowVersion) → table_numbered cat of_table.table ≡ Some t → HasBundle image t of_table.layout entry vs → ⊥

abbrev pub HurtIndex : List ℕ → Placing → Extent → Type 0
HurtIndex image l e = (x : ℕ × Extent) × Contains l.manifest.deltas x × (x.1 ≡ e) × ((i : List TableIndex) → IsIndex i (bytes_in image e) → ⊥)

abbrev pub IsHurt : List ℕ → Catalogue → Placing → Extent → Type 0
IsHurt image cat l e = HurtIndex image l e ⊎ HurtBundle image cat l e

-- the lengths of what is written for a delta: its bundles, and then its index
abbrev pub bare_entry : List RowVersion → BundleEntry
bare_entry vs = record { place = 0; length = 0; versions = length vs; first = first_key vs; last = last_key vs; least = least_ts vs; greatest = greatest_ts vs }

abbrev pub bare_index : TableDelta → TableIndex
bare_index t = record { table = t.table; layout = t.layout; entries = map bare_entry t.bundles }

abbrev pub bundle_lengths : Delta → List ℕ
bundle_lengths d = flat_map (λ t. map (λ b. length (bundle_bytes t.layout b)) t.bundles) d.tables

abbrev pub index_length : Delta → ℕ
index_length d = length (index_bytes (map bare_index d.tables))

abbrev pub bare_manifest : Durable → Manifest
bare_manifest d = record { limit = d.limit; minimum = d.minimum; next_id = d.next_id; catalogue = d.catalogue; streams = d.streams; parts = d.parts; deltas = map (λ x. (x.id, record { place = 0; length = 0 })) d.shelf }

abbrev pub manifest_length : Durable → ℕ
manifest_length d = length (manifest_bytes (bare_manifest d))

-- ---- lawful durable parts, without the bytes that spell them

-- a delta's part of a table: under a layout that the catalogue covers, an ordered list of lawful versions with keys of the table's kinds,
-- in bundles none of which is empty and none of which shares a key with another
pub record IsLawfulTable (cat : Catalogue) (d : TableDelta) : Type 0 where
  pub table : Table
  pub known : table_numbered cat d.table ≡ Some table
  pub layout : IsLayout d.layout
  pub covered : IsTrue (is_covered cat d.table d.layout)
  pub versions : AreVersions d.layout (versions_in d)
  pub keys : AllByRecursion (λ v. IsKeyBytes table v.key) (versions_in d)
  pub bundles : IsTrue (nat_lt 0 (length d.bundles) && list_all (λ b. nat_lt 0 (length b)) d.bundles && entries_rise (map bare_entry d.bundles))

abbrev pub AreLawfulTables : Catalogue → Delta → Type 0
AreLawfulTables cat d = IsTrue (rises_strictly (map (λ t. t.table) d.tables)) × AllByRecursion (IsLawfulTable cat) d.tables

-- the partitions tile the keys and list deltas of the shelf, all of which are listed; ids rise and are below the next one
pub record IsLawfulPart (d : Durable) : Type 0 where
  pub generation : IsTrue (nat_lt 0 d.generation && nat_lt d.generation (2 ^ 64))
  pub manifest : IsLawfulManifest (bare_manifest d)
  pub shelf : AllByRecursion (AreLawfulTables d.catalogue) d.shelf

-- The image holds the durable part: the slot that counts names the manifest, it names the indexes, and they the bundles;
-- no two extents meet.
pub record HoldsAt (image : List ℕ) (d : Durable) (l : Placing) : Type 0 where
  pub root : CountsAsRoot image l.root
  pub manifest : IsManifest l.manifest (bytes_in image (root_extent l.root))
  pub deltas : HasDeltas image l.manifest.catalogue l.manifest.deltas l.indexes d.shelf
  pub extents : IsTrue (are_apart l.manifest.limit (extents_of l))
  pub durable : d ≡ durable_of l d.shelf

abbrev pub Holds : List ℕ → Durable → Type 0
Holds image d = (l : Placing) × HoldsAt image d l

abbrev pub IsStore : List ℕ → Type 0
IsStore image = (d : Durable) × Holds image d

-- no extent goes on past the end of the file; bytes there would read as 0, but the next write may change them
abbrev pub are_within : List ℕ → List Extent → Bool
are_within image es = list_all (λ e. nat_le (end_of e) (length image)) es

-- what an image holds is lawful
abbrev pub HoldsLawful : Type 0
HoldsLawful = (image : List ℕ) (d : Durable) → Holds image d → IsLawfulPart d

-- an image holds one durable part
abbrev pub HoldsOne : Type 0
HoldsOne = (image : List ℕ) (d e : Durable) → Holds image d → Holds image e → d ≡ e
