-- What is known of the bytes of the store's formats.
use Rattle.std.specs.Prelude.{IsTrue, List, length, ℕ, ◌++◌, ◌<◌, ◌^◌, ◌↔◌, ◌≡◌}
use Rattle.std.specs.List.{AllByRecursion}
use Rattle.lt_terms.specs.Layout.{Leaf}
use Rattle.lt_terms.specs.Kind.{Kind}
use Rattle.lt_tables.specs.Schema.{Column, IsCatalogue}
use Rattle.lt_tables.specs.Version.{RowVersion}
use Rattle.lt_storage.specs.Bundle.{IsBundle, bundle_bytes}
use Rattle.lt_storage.specs.Store.{IsIndex, IsLawfulManifest, IsLayout, Manifest, TableIndex, column_bytes, counted32, delta_entry_bytes, entry_bytes, index_bytes, kind_bytes, leaf_entry_bytes, manifest_bytes, part_entry_bytes, point_bytes, stream_entry_bytes, table_bytes, table_index_bytes, version_bytes}
use Rattle.lt_codecs.specs.Codec.{ReadsBack}
use Rattle.lt_store_codecs.specs.BundleCodec.{bundle}
use Rattle.lt_store_codecs.specs.StoreCodec.{catalogue, column, delta, entry, index, kind, kind_fits, leaf, manifest, partition, point, slot, slot_bytes, stream, table, table_index, version}

-- each codec of the store reads what the store's grammar spells
pub record StoreCodecs : Type 0 where
  pub slots : ReadsBack slot slot_bytes
  pub kinds : (depth : ℕ) → ReadsBack (kind depth) kind_bytes
  pub columns : ReadsBack column column_bytes
  pub versions : ReadsBack version version_bytes
  pub tables : ReadsBack table table_bytes
  pub catalogues : ReadsBack catalogue (counted32 table_bytes)
  pub points : ReadsBack point point_bytes
  pub streams : ReadsBack stream stream_entry_bytes
  pub partitions : ReadsBack partition part_entry_bytes
  pub deltas : ReadsBack delta delta_entry_bytes
  pub manifests : ReadsBack manifest manifest_bytes
  pub leaves : ReadsBack leaf leaf_entry_bytes
  pub entries : ReadsBack entry entry_bytes
  pub table_indexes : ReadsBack table_index table_index_bytes
  pub indexes : ReadsBack index index_bytes
  pub bundles : (layout : List Leaf) → ReadsBack (bundle layout) (bundle_bytes layout)

-- ---- kinds and columns

-- no kind begins another
abbrev pub AreKindsPrefixFree : Type 0
AreKindsPrefixFree = (depth : ℕ) (k l : Kind) (x y : List ℕ) → IsTrue (kind_fits depth k) → IsTrue (kind_fits depth l) → kind_bytes k ++ x ≡ kind_bytes l ++ y → (k ≡ l) × (x ≡ y)

-- no column begins another
abbrev pub AreColumnsPrefixFree : Type 0
AreColumnsPrefixFree = (c d : Column) (x y : List ℕ) → column.Lawful c → column.Lawful d → column_bytes c ++ x ≡ column_bytes d ++ y → (c ≡ d) × (x ≡ y)

-- ---- manifests

-- a manifest is lawful exactly where its codec can spell it and its catalogue is lawful
abbrev pub DecidesManifests : Type 0
DecidesManifests = (m : Manifest) → IsLawfulManifest m ↔ (manifest.Lawful m × IsCatalogue m.catalogue)

-- no manifest begins another
abbrev pub AreManifestsPrefixFree : Type 0
AreManifestsPrefixFree = (m n : Manifest) (x y : List ℕ) → IsLawfulManifest m → IsLawfulManifest n → manifest_bytes m ++ x ≡ manifest_bytes n ++ y → (m ≡ n) × (x ≡ y)

-- ---- indexes

-- an index is lawful exactly where its codec can spell it and each of its layouts is one of columns
abbrev pub DecidesIndexes : Type 0
DecidesIndexes = (ts : List TableIndex) → IsIndex ts (index_bytes ts) ↔ (index.Lawful ts × AllByRecursion (λ t. IsLayout t.layout) ts)

-- no index begins another
abbrev pub AreIndexesPrefixFree : Type 0
AreIndexesPrefixFree = (ts us : List TableIndex) (b c x y : List ℕ) → IsIndex ts b → IsIndex us c → b ++ x ≡ c ++ y → (ts ≡ us) × (x ≡ y)

-- ---- bundles

-- the codec can spell what is a bundle, where the count of its bytes fits the eight bytes of an offset
abbrev pub BundlesAreLawful : Type 0
BundlesAreLawful = (table : ℕ) (layout : List Leaf) (vs : List RowVersion) (bytes : List ℕ) → length bytes < 2 ^ 64 → IsBundle table layout vs bytes → (bundle layout).Lawful vs

-- Of one table and under one layout, bytes spell one list of versions, where their count fits the eight bytes of an offset.
abbrev pub SpellOneList : Type 0
SpellOneList = (table : ℕ) (layout : List Leaf) (vs ws : List RowVersion) (bytes : List ℕ) → length bytes < 2 ^ 64 → IsBundle table layout vs bytes → IsBundle table layout ws bytes → vs ≡ ws
