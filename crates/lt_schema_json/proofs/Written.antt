-- What the loops write, as the definitions say it.
use Rattle.std.proofs.Common.{◌≡◌, ℕ, ℤ, pos, negsuc, List, [], ◌∷◌, Option, Some, None, Bool, false, Vec, Global, map, refl, ap, ap₂, ◌∙◌}
use Rattle.std.specs.Prelude.{◌||◌}
use Rattle.serde_json.specs.Data.{Data}
use Rattle.serde_json.specs.Data as json
use Rattle.serde_json.specs.View.{items_of, view}
use Rattle.serde_json.specs.Written.{has_float, items_have_float}
use Rattle.serde_json.specs.declared.value.Value.{Array, Value as Json}
use Rattle.serde_json.proofs.Views.{view-Array}
use Rattle.lt_terms.specs.Kind.{FieldKinds, Kind, enumeration, field_kind, field_kinds_of, no_kinds, plain, structured}
use Rattle.lt_tables.specs.Schema.{Column, SchemaVersion}
use Rattle.lt_words.specs.SchemaText.{column_data, field_items, items_from, kind_data, number_data, plain_data, plain_items, version_data}
use Rattle.lt_terms.specs.Value.{Fields, Value, bool_value, bytes_value, field_value, fields_of, int_value, no_fields, null_value, struct_value, text_value}
use Rattle.lt_schema_json.specs.Writing.{field_data, item_data, key_data, list_data, name_data}

same_items : (ds : List Data) → items_of ds ≡ items_from ds
same_items [] = refl
same_items (d ∷ ds) = ap (json.item d) (same_items ds)

pub array_written : (v : Vec Json Global) (ds : List Data) → map view v.items ≡ ds → view (Array v) ≡ list_data ds
array_written v ds written = view-Array v ∙ ap (λ (es : List Data). json.array (items_of es)) written ∙ ap json.array (same_items ds)

pub fields_written : (fs : List (ℕ × List ℕ × Kind)) → items_from (map field_data fs) ≡ field_items (field_kinds_of fs)
fields_written [] = refl
fields_written (f ∷ fs) = ap (json.item (field_data f)) (fields_written fs)

pub values_written : (vs : List (ℕ × Value)) → items_from (map item_data vs) ≡ plain_items (fields_of vs)
values_written [] = refl
values_written (v ∷ vs) = ap (json.item (item_data v)) (values_written vs)

-- ---- what is written has no float

no_float_number : (z : ℤ) → has_float (number_data z) ≡ false
no_float_number (pos n) = refl
no_float_number (negsuc n) = refl

abbrev neither : {a b : Bool} → a ≡ false → b ≡ false → (a || b) ≡ false
neither {a} {b} p q = ap₂ ◌||◌ p q

-- a list has no float where its items have none
items_plain : {A : Type 0} (write : A → Data) → ((x : A) → has_float (write x) ≡ false) → (xs : List A) → items_have_float (items_from (map write xs)) ≡ false
items_plain write h [] = refl
items_plain write h (x ∷ xs) = neither (h x) (items_plain write h xs)

mutual
  kind_plain : (k : Kind) → has_float (kind_data k) ≡ false
  kind_plain (plain r) = refl
  kind_plain (enumeration names) = neither (items_plain name_data (λ n. neither (no_float_number n.0) refl) names) refl
  kind_plain (structured ks) = neither (fields_plain ks) refl

  fields_plain : (ks : FieldKinds) → items_have_float (field_items ks) ≡ false
  fields_plain no_kinds = refl
  fields_plain (field_kind n name k ks) = neither (neither (kind_plain k) refl) (fields_plain ks)

mutual
  pub value_plain : (v : Value) → has_float (plain_data v) ≡ false
  value_plain null_value = refl
  value_plain (bool_value b) = refl
  value_plain (int_value z) = no_float_number z
  value_plain (text_value t) = refl
  value_plain (bytes_value b) = refl
  value_plain (struct_value fs) = values_plain fs

  values_plain : (fs : Fields) → items_have_float (plain_items fs) ≡ false
  values_plain no_fields = refl
  values_plain (field_value n v fs) = neither (value_plain v) (values_plain fs)

column_plain_by : (n : ℕ) (name : List ℕ) (k : Kind) (o : Option Value) → has_float (column_data (record { number = n; name = name; kind = k; fallback = o })) ≡ false
column_plain_by n name k None = neither (kind_plain k) refl
column_plain_by n name k (Some v) = neither (value_plain v) (neither (kind_plain k) refl)

column_plain : (c : Column) → has_float (column_data c) ≡ false
column_plain c = column_plain_by c.number c.name c.kind c.fallback

pub version_plain : (v : SchemaVersion) → has_float (version_data v) ≡ false
version_plain v = neither (items_plain column_data column_plain v.columns) (neither (items_plain key_data (λ k. refl) v.key) refl)
