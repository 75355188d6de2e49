-- The store's formats as codecs. Their spellings are those of the store's grammar.
use Rattle.std.specs.Prelude.{Bool, IsTrue, List, None, Option, Some, [], codes, length, map, nat_le, nat_lt, suc, true, zero, ℕ, ℤ, ◌&&◌, ◌-◌, ◌^◌, ◌∷◌}
use Rattle.std.specs.List.{list_all}
use Rattle.lt_terms.specs.declared.Rank.{Rank}
use Rattle.lt_terms.specs.Kind.{FieldKinds, Kind, enumeration, field_kind, field_kinds_of, no_kinds, plain, rank_number, structured}
use Rattle.lt_terms.specs.Value.{Value, fits_32, rises_strictly}
use Rattle.lt_terms.specs.declared.KeyKind.{KeyKind}
use Rattle.lt_terms.specs.declared.Extent.{Extent}
use Rattle.lt_terms.specs.Key.{tile}
use Rattle.lt_terms.specs.Layout.{Leaf}
use Rattle.lt_world.specs.Slots.{is_root, slot_body}
use Rattle.lt_world.specs.Disk.{zeros}
use Rattle.lt_tables.specs.Schema.{Catalogue, Column, KeyColumn, Registered, Table, field_numbers, key_kind_byte}
use Rattle.lt_tables.specs.Fair.{Point}
use Rattle.lt_tables.specs.Pump.{Part}
use Rattle.lt_storage.specs.Store.{BundleEntry, Manifest, Stream, TableIndex, column_bytes, delta_entry_bytes, entries_rise, entry_bytes, index_bytes, is_delta_entry, is_entry, is_limit, is_part_entry, is_stream_entry, kind_bytes, leaf_entry_bytes, manifest_bytes, part_entry_bytes, point_bytes, stream_entry_bytes, table_bytes, table_index_bytes, version_bytes}
use Rattle.lt_codecs.specs.Codec.{Codec, byte, bytes16, counted, empty, i32, literal, mapped, nothing, of_parts, on_tag, optional, stated, tagged, u16, u32, u64, where_true, ◌>>=◌, ◌then◌}
use Rattle.lt_codecs.specs.LogCodec.{flag, log_value}
use Rattle.lt_terms.specs.declared.Rank.TheVariants as ranks
use Rattle.lt_terms.specs.declared.KeyKind.TheVariants as key_kinds

-- ---- root slots

-- generation, place and length
abbrev pub SlotParts : Type 0
SlotParts = ℕ × (ℕ × ℕ)

abbrev pub slot_bytes : SlotParts → List ℕ
slot_bytes r = slot_body r.0 r.1.0 r.1.1

abbrev pub is_lawful_slot : SlotParts → Bool
is_lawful_slot r = is_root r.0 r.1.0 r.1.1

-- what stands between magic and zeros
abbrev pub in_slot : Unit {0} × (ℕ × (ℕ × (ℕ × Unit {0}))) → SlotParts
in_slot p = (p.1.0, (p.1.1.0, p.1.1.1.0))

-- the 511 bytes before a slot's gate
unfoldable pub slot : Codec SlotParts
slot = stated in_slot slot_bytes (λ r. IsTrue (is_lawful_slot r)) (where_true (λ p. is_lawful_slot (in_slot p)) (literal (codes "LTROOT") then (u64 then (u64 then (u64 then literal (zeros 481))))))

-- ---- kinds

abbrev pub rank_behind : ℕ → List ℕ → Option (Rank × List ℕ)
rank_behind tag bytes =
    on_tag 1 tag empty (λ _. ranks.Bool) bytes
    (on_tag 2 tag empty (λ _. ranks.Int32) bytes
    (on_tag 3 tag empty (λ _. ranks.Int64) bytes
    (on_tag 4 tag empty (λ _. ranks.Text) bytes
    (on_tag 5 tag empty (λ _. ranks.Bytes) bytes None))))

unfoldable pub rank : Codec Rank
rank = tagged (λ r. rank_number r ∷ []) (λ _. Unit {0}) rank_behind

-- numbers and names of an enum
unfoldable pub enum_names : Codec (List (ℤ × List ℕ))
enum_names = counted u16 (i32 then bytes16)

-- Lengths and numbers fit their bytes. Structs nest at most as deep as the first argument says.
abbrev mutual
  pub kind_fits : ℕ → Kind → Bool
  kind_fits depth (plain r) = true
  kind_fits depth (enumeration names) = nat_lt (length names) (2 ^ 16) && list_all (λ n. fits_32 n.0 && nat_lt (length n.1) (2 ^ 16)) names
  kind_fits depth (structured ks) = nat_lt 0 depth && nat_lt (length (field_numbers ks)) (2 ^ 16) && kinds_fit (depth - 1) ks

  pub kinds_fit : ℕ → FieldKinds → Bool
  kinds_fit depth no_kinds = true
  kinds_fit depth (field_kind n name k ks) = nat_lt n (2 ^ 16) && nat_lt (length name) (2 ^ 16) && kind_fits depth k && kinds_fit depth ks

-- the fields of a struct as a list
abbrev pub field_kind_list : FieldKinds → List (ℕ × List ℕ × Kind)
field_kind_list no_kinds = []
field_kind_list (field_kind n name k ks) = (n, name, k) ∷ field_kind_list ks

-- number, name and kind of a field
abbrev pub kind_field : Codec Kind → Codec (ℕ × List ℕ × Kind)
kind_field kind = mapped (λ p. (p.0, p.1.0, p.1.1)) (λ f. (f.0, (f.1, f.2))) (u16 then (bytes16 then kind))

-- what stands behind a kind's tag, given what a struct holds
abbrev pub kind_behind : Codec (List (ℕ × List ℕ × Kind)) → ℕ → List ℕ → Option (Kind × List ℕ)
kind_behind fields tag bytes =
    on_tag 6 tag enum_names enumeration bytes
    (on_tag 7 tag fields (λ fs. structured (field_kinds_of fs)) bytes
    (rank_behind tag bytes >>= λ r. Some (plain r.0, r.1)))

-- the kinds that nest at most so deep, given what a struct holds
abbrev pub kind_holding : ℕ → Codec (List (ℕ × List ℕ × Kind)) → Codec Kind
kind_holding depth fields = tagged kind_bytes (λ k. IsTrue (kind_fits depth k)) (kind_behind fields)

-- what a struct holds that nests at most so deep
unfoldable pub kind_fields : ℕ → Codec (List (ℕ × List ℕ × Kind))
kind_fields zero = nothing
kind_fields (suc depth) = counted u16 (kind_field (kind_holding depth (kind_fields depth)))

-- a kind that nests at most so deep
unfoldable pub kind : ℕ → Codec Kind
kind depth = kind_holding depth (kind_fields depth)

-- ---- columns, versions and tables

-- number, name, kind and default
abbrev pub ColumnParts : Type 0
ColumnParts = ℕ × (List ℕ × (Kind × Option Value))

abbrev pub as_column : ColumnParts → Column
as_column p = record { number = p.0; name = p.1.0; kind = p.1.1.0; fallback = p.1.1.1 }

abbrev pub parts_of_column : Column → ColumnParts
parts_of_column c = (c.number, (c.name, (c.kind, c.fallback)))

unfoldable pub column : Codec Column
column = of_parts as_column parts_of_column column_bytes (u16 then (bytes16 then (kind 4 then optional log_value)))

-- whether it is live, and its columns
unfoldable pub version : Codec Registered
version = of_parts (λ p. record { live = p.0; columns = p.1 }) (λ r. (r.live, r.columns)) version_bytes (flag then counted u16 column)

abbrev pub key_kind_behind : ℕ → List ℕ → Option (KeyKind × List ℕ)
key_kind_behind tag bytes = on_tag 1 tag empty (λ _. key_kinds.Int64) bytes (on_tag 2 tag empty (λ _. key_kinds.Text) bytes None)

unfoldable pub key_kind : Codec KeyKind
key_kind = tagged (λ k. key_kind_byte k ∷ []) (λ _. Unit {0}) key_kind_behind

unfoldable pub key_column : Codec KeyColumn
key_column = mapped (λ p. record { name = p.0; kind = p.1 }) (λ k. (k.name, k.kind)) (bytes16 then key_kind)

-- number, name, key columns and versions
abbrev pub TableParts : Type 0
TableParts = ℕ × (List ℕ × (List KeyColumn × List Registered))

abbrev pub as_table : TableParts → Table
as_table p = record { number = p.0; name = p.1.0; key = p.1.1.0; versions = p.1.1.1 }

abbrev pub parts_of_table : Table → TableParts
parts_of_table t = (t.number, (t.name, (t.key, t.versions)))

unfoldable pub table : Codec Table
table = of_parts as_table parts_of_table table_bytes (u32 then (bytes16 then (counted byte key_column then counted u16 version)))

unfoldable pub catalogue : Codec Catalogue
catalogue = counted u32 table

-- ---- manifests

-- offset, checkpoint, greatest timestamp and window
abbrev pub PointParts : Type 0
PointParts = ℕ × (ℕ × (ℕ × List (List ℕ × ℕ)))

abbrev pub as_point : PointParts → ℕ × Point
as_point p = (p.0, record { checkpoint = p.1.0; greatest = p.1.1.0; window = p.1.1.1 })

abbrev pub parts_of_point : ℕ × Point → PointParts
parts_of_point p = (p.0, (p.1.checkpoint, (p.1.greatest, p.1.window)))

unfoldable pub point : Codec (ℕ × Point)
point = of_parts as_point parts_of_point point_bytes (u64 then (u64 then (u64 then counted u32 (bytes16 then u64))))

unfoldable pub stream : Codec Stream
stream = of_parts (λ p. record { low = p.0; points = p.1 }) (λ s. (s.low, s.points)) stream_entry_bytes (bytes16 then counted byte point)

-- low bound, resume and ids of deltas
unfoldable pub partition : Codec Part
partition = of_parts (λ p. record { low = p.0; resume = p.1.0; ids = p.1.1 }) (λ p. (p.low, (p.resume, p.ids))) part_entry_bytes (bytes16 then (u64 then counted u32 u64))

unfoldable pub delta : Codec (ℕ × Extent)
delta = of_parts (λ p. (p.0, record { place = p.1.0; length = p.1.1 })) (λ d. (d.0, (d.1.place, d.1.length))) delta_entry_bytes (u64 then (u64 then u64))

-- magic, limit, minimum, next id, catalogue, streams, partitions and deltas
abbrev pub ManifestParts : Type 0
ManifestParts = Unit {0} × (ℕ × (ℕ × (ℕ × (Catalogue × (List Stream × (List Part × List (ℕ × Extent)))))))

abbrev pub as_manifest : ManifestParts → Manifest
as_manifest p = record { limit = p.1.0; minimum = p.1.1.0; next_id = p.1.1.1.0; catalogue = p.1.1.1.1.0; streams = p.1.1.1.1.1.0; parts = p.1.1.1.1.1.1.0; deltas = p.1.1.1.1.1.1.1 }

abbrev pub parts_of_manifest : Manifest → ManifestParts
parts_of_manifest m = (tt, (m.limit, (m.minimum, (m.next_id, (m.catalogue, (m.streams, (m.parts, m.deltas)))))))

-- what a lawful manifest has besides a lawful catalogue
abbrev pub has_lawful_parts : Manifest → Bool
has_lawful_parts m = is_limit m.limit
    && (nat_lt 0 (length m.streams) && nat_le (length m.streams) 64 && list_all is_stream_entry m.streams)
    && (tile (map (λ p. p.low) m.parts) && nat_le (length m.parts) 1024 && list_all (is_part_entry m) m.parts)
    && (rises_strictly (map (λ d. d.0) m.deltas) && nat_le (length m.deltas) 4096 && list_all (is_delta_entry m) m.deltas)

unfoldable pub manifest : Codec Manifest
manifest = where_true has_lawful_parts (of_parts as_manifest parts_of_manifest manifest_bytes
    (literal (codes "LTM1") then (u64 then (u64 then (u64 then (catalogue then (counted u32 stream then (counted u32 partition then counted u32 delta))))))))

-- ---- indexes

-- column, path, rank and presence
abbrev pub LeafParts : Type 0
LeafParts = ℕ × (List ℕ × (Rank × Bool))

abbrev pub as_leaf : LeafParts → Leaf
as_leaf p = record { column = p.0; path = p.1.0; rank = p.1.1.0; presence = p.1.1.1 }

abbrev pub parts_of_leaf : Leaf → LeafParts
parts_of_leaf l = (l.column, (l.path, (l.rank, l.presence)))

unfoldable pub leaf : Codec Leaf
leaf = of_parts as_leaf parts_of_leaf leaf_entry_bytes (u16 then (counted byte u16 then (rank then flag)))

-- place, length, count of versions, first and last key, least and greatest timestamp
abbrev pub EntryParts : Type 0
EntryParts = ℕ × (ℕ × (ℕ × (List ℕ × (List ℕ × (ℕ × ℕ)))))

abbrev pub as_entry : EntryParts → BundleEntry
as_entry p = record { place = p.0; length = p.1.0; versions = p.1.1.0; first = p.1.1.1.0; last = p.1.1.1.1.0; least = p.1.1.1.1.1.0; greatest = p.1.1.1.1.1.1 }

abbrev pub parts_of_entry : BundleEntry → EntryParts
parts_of_entry e = (e.place, (e.length, (e.versions, (e.first, (e.last, (e.least, e.greatest))))))

unfoldable pub entry : Codec BundleEntry
entry = of_parts as_entry parts_of_entry entry_bytes (u64 then (u64 then (u64 then (bytes16 then (bytes16 then (u64 then u64))))))

abbrev pub has_lawful_entries : TableIndex → Bool
has_lawful_entries t = nat_lt 0 (length t.entries) && nat_lt (length t.entries) (2 ^ 64) && list_all is_entry t.entries && entries_rise t.entries

-- table, layout and entries of bundles
unfoldable pub table_index : Codec TableIndex
table_index = where_true has_lawful_entries
    (of_parts (λ p. record { table = p.0; layout = p.1.0; entries = p.1.1 }) (λ t. (t.table, (t.layout, t.entries))) table_index_bytes (u32 then (counted u32 leaf then counted u64 entry)))

unfoldable pub index : Codec (List TableIndex)
index = where_true (λ ts. rises_strictly (map (λ t. t.table) ts)) (of_parts (λ p. p.1) (λ ts. (tt, ts)) index_bytes (literal (codes "LTI1") then counted u32 table_index))
