-- The codecs of what has names, with each name a text. A lawful catalogue has no other names.
use Rattle.std.specs.Prelude.{List, Option, Some, codes, zero, suc, ℕ, ℤ}
use Rattle.std.specs.Str.{is_utf8}
use Rattle.lt_terms.specs.Kind.{Kind, enumeration, field_kinds_of, plain, structured}
use Rattle.lt_tables.specs.Schema.{Catalogue, Column, KeyColumn, Registered, Table}
use Rattle.lt_storage.specs.Store.{Manifest, column_bytes, kind_bytes, manifest_bytes, table_bytes, version_bytes}
use Rattle.lt_codecs.specs.Codec.{Codec, ◌>>=◌, ◌then◌, byte, bytes16, counted, i32, literal, mapped, nothing, of_parts, on_tag, optional, tagged, u16, u32, u64, where_true}
use Rattle.lt_codecs.specs.LogCodec.{flag, log_value}
use Rattle.lt_store_codecs.specs.StoreCodec as store
use Rattle.lt_store_codecs.specs.StoreCodec.{as_column, as_manifest, as_table, has_lawful_parts, key_kind, parts_of_column, parts_of_manifest, parts_of_table, rank_behind}

unfoldable pub text16 : Codec (List ℕ)
text16 = where_true is_utf8 bytes16

unfoldable pub enum_names : Codec (List (ℤ × List ℕ))
enum_names = counted u16 (i32 then text16)

abbrev pub kind_field : Codec Kind → Codec (ℕ × List ℕ × Kind)
kind_field kind = mapped (λ p. (p.0, p.1.0, p.1.1)) (λ f. (f.0, (f.1, f.2))) (u16 then (text16 then kind))

abbrev pub kind_behind : Codec (List (ℕ × List ℕ × Kind)) → ℕ → List ℕ → Option (Kind × List ℕ)
kind_behind fields tag bytes =
    on_tag 6 tag enum_names enumeration bytes
    (on_tag 7 tag fields (λ fs. structured (field_kinds_of fs)) bytes
    (rank_behind tag bytes >>= λ r. Some (plain r.0, r.1)))

abbrev pub kind_holding : ℕ → Codec (List (ℕ × List ℕ × Kind)) → Codec Kind
kind_holding depth fields = tagged kind_bytes (λ k. Unit {0}) (kind_behind fields)

unfoldable pub kind_fields : ℕ → Codec (List (ℕ × List ℕ × Kind))
kind_fields zero = nothing
kind_fields (suc depth) = counted u16 (kind_field (kind_holding depth (kind_fields depth)))

unfoldable pub kind : ℕ → Codec Kind
kind depth = kind_holding depth (kind_fields depth)

unfoldable pub column : Codec Column
column = of_parts as_column parts_of_column column_bytes (u16 then (text16 then (kind 4 then optional log_value)))

unfoldable pub version : Codec Registered
version = of_parts (λ p. record { live = p.0; columns = p.1 }) (λ r. (r.live, r.columns)) version_bytes (flag then counted u16 column)

unfoldable pub key_column : Codec KeyColumn
key_column = mapped (λ p. record { name = p.0; kind = p.1 }) (λ k. (k.name, k.kind)) (text16 then key_kind)

unfoldable pub table : Codec Table
table = of_parts as_table parts_of_table table_bytes (u32 then (text16 then (counted byte key_column then counted u16 version)))

unfoldable pub catalogue : Codec Catalogue
catalogue = counted u32 table

-- what stands in a manifest, before its parts are tested
unfoldable pub manifest_parts : Codec Manifest
manifest_parts = of_parts as_manifest parts_of_manifest manifest_bytes
    (literal (codes "LTM1") then (u64 then (u64 then (u64 then (catalogue then (counted u32 store.stream then (counted u32 store.partition then counted u32 store.delta)))))))

unfoldable pub manifest : Codec Manifest
manifest = where_true has_lawful_parts manifest_parts
