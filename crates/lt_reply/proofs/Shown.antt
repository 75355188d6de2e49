-- What is shown of values, as the definitions say it.
use Rattle.std.proofs.Common.{Bool, List, Option, None, Some, [], ap, ap₂, arith, drop, false, length, map, min, refl, suc, take, zero, ℕ, ℤ, negsuc, pos, ◌++◌, ◌∙◌, ◌∷◌, ◌≡◌}
use Rattle.std.specs.Prelude.{◌||◌}
use Rattle.std.specs.Option.{option_map_or}
use Rattle.serde_json.specs.Data.{Data}
use Rattle.serde_json.specs.Data as json
use Rattle.serde_json.specs.View.{items_of}
use Rattle.serde_json.specs.Written.{compact_text, has_float, items_have_float}
use Rattle.lt_terms.specs.declared.KeyKind.{KeyKind}
use Rattle.lt_terms.specs.declared.KeyKind.TheVariants as key_kind
use Rattle.lt_terms.specs.Kind.{FieldKinds, Kind, enumeration, field_kind, field_kinds_of, no_kinds, plain, structured}
use Rattle.lt_tables.specs.Query.{full_columns, key_part_kind}
use Rattle.lt_words.specs.Reply.{name_of_number, shown, shown_fields, shown_row}
use Rattle.lt_tables.specs.Schema.{Column}
use Rattle.lt_words.specs.SchemaText.{items_from, number_data, plain_data}
use Rattle.lt_terms.specs.Value.{Fields, Value, bool_value, bytes_value, int_value, null_value, struct_value, text_value, value_at}
use Rattle.lt_core.specs.View.{view_row, view_value}
use Rattle.lt_core.specs.declared.value.Value.{Value as CodeValue}
use Rattle.lt_schema.specs.View.{view_key}
use Rattle.lt_schema.specs.declared.version.KeyColumn.{KeyColumn}
use Rattle.lt_schema_json.proofs.Written.{value_plain}
use Rattle.lt_reply.specs.Rows.{column_kinds, shown_each}

-- ---- the fields of a struct

-- what is shown of a struct for a field of its kind
abbrev pub field_shown : Fields → ℕ × List ℕ × Kind → Data
field_shown fs k = shown (value_at k.0 fs) k.2

pub fields_shown : (fs : Fields) (ks : List (ℕ × List ℕ × Kind)) → items_from (map (field_shown fs) ks) ≡ shown_fields fs (field_kinds_of ks)
fields_shown fs [] = refl
fields_shown fs (k ∷ ks) = ap (json.item (field_shown fs k)) (fields_shown fs ks)

-- ---- the values of a row

pub none_shown : (ks : List Kind) → shown_each ks [] ≡ []
none_shown [] = refl
none_shown (k ∷ ks) = refl

row_shown : (ks : List Kind) (vs : List Value) → items_of (shown_each ks vs) ≡ shown_row ks vs
row_shown [] vs = refl
row_shown (k ∷ ks) [] = refl
row_shown (k ∷ ks) (v ∷ vs) = ap (json.item (shown v k)) (row_shown ks vs)

part_shown : (v : Value) (k : KeyKind) → plain_data v ≡ shown v (key_part_kind k)
part_shown v key_kind.Int64 = refl
part_shown v key_kind.Text = refl

same_kinds : (cs : List Column) → column_kinds cs ≡ map (λ c. c.1) (full_columns [] cs)
same_kinds [] = refl
same_kinds (c ∷ cs) = ap (λ (ks : List Kind). c.kind ∷ ks) (same_kinds cs)

-- the parts of the key, and then the columns
split_shown : (key : List KeyColumn) (cs : List Column) (vs : List CodeValue) (n : ℕ) → n ≡ min (length vs) (length key)
    → map plain_data (view_row (take n vs)) ++ shown_each (column_kinds cs) (view_row (drop n vs)) ≡ shown_each (map (λ c. c.1) (full_columns (view_key key) cs)) (view_row vs)
split_shown [] cs vs zero e = ap (λ (ks : List Kind). shown_each ks (view_row vs)) (same_kinds cs)
split_shown [] cs vs (suc n) e = absurd (omega (arith, e))
split_shown (k ∷ key) cs [] zero e = none_shown (column_kinds cs)
split_shown (k ∷ key) cs [] (suc n) e = absurd (omega (arith, e))
split_shown (k ∷ key) cs (v ∷ vs) zero e = absurd (omega (arith, e))
split_shown (k ∷ key) cs (v ∷ vs) (suc n) e = ap₂ (λ (d : Data) (ds : List Data). d ∷ ds) (part_shown (view_value v) k.kind) (split_shown key cs vs n (omega (arith, e)))

-- The first values of a row were written as the parts of the key, and those behind them as the columns.
pub row_items : (key : List KeyColumn) (cs : List Column) (vs parts values : List CodeValue) (n : ℕ) (front items : List Data) → n ≡ min (length vs) (length key) → parts ≡ take n vs → values ≡ drop n vs
    → front ≡ map plain_data (view_row parts) → items ≡ front ++ shown_each (column_kinds cs) (view_row values) → items_of items ≡ shown_row (map (λ c. c.1) (full_columns (view_key key) cs)) (view_row vs)
row_items key cs vs parts values n front items e p q f g =
    ap items_of (g ∙ ap₂ (λ (ds : List Data) (us : List CodeValue). ds ++ shown_each (column_kinds cs) (view_row us)) (f ∙ ap (λ (us : List CodeValue). map plain_data (view_row us)) p) q ∙ split_shown key cs vs n e)
    ∙ row_shown (map (λ c. c.1) (full_columns (view_key key) cs)) (view_row vs)

-- ---- nothing that is shown has a float

abbrev neither : {a b : Bool} → a ≡ false → b ≡ false → (a || b) ≡ false
neither {a} {b} p q = ap₂ ◌||◌ p q

named_plain : (o : Option (List ℕ)) (z : ℤ) → has_float (option_map_or json.string o (number_data z)) ≡ false
named_plain None (pos n) = refl
named_plain None (negsuc n) = refl
named_plain (Some name) z = refl

mutual
  shown_plain : (v : Value) (k : Kind) → has_float (shown v k) ≡ false
  shown_plain v (plain r) = value_plain v
  shown_plain (int_value z) (enumeration names) = named_plain (name_of_number names z) z
  shown_plain null_value (enumeration names) = refl
  shown_plain (bool_value b) (enumeration names) = refl
  shown_plain (text_value t) (enumeration names) = refl
  shown_plain (bytes_value b) (enumeration names) = refl
  shown_plain (struct_value fs) (enumeration names) = value_plain (struct_value fs)
  shown_plain (struct_value fs) (structured ks) = fields_plain fs ks
  shown_plain null_value (structured ks) = refl
  shown_plain (bool_value b) (structured ks) = refl
  shown_plain (int_value z) (structured ks) = value_plain (int_value z)
  shown_plain (text_value t) (structured ks) = refl
  shown_plain (bytes_value b) (structured ks) = refl

  fields_plain : (fs : Fields) (ks : FieldKinds) → items_have_float (shown_fields fs ks) ≡ false
  fields_plain fs no_kinds = refl
  fields_plain fs (field_kind n name k ks) = neither (shown_plain (value_at n fs) k) (fields_plain fs ks)

row_plain : (ks : List Kind) (vs : List Value) → items_have_float (shown_row ks vs) ≡ false
row_plain [] vs = refl
row_plain (k ∷ ks) [] = refl
row_plain (k ∷ ks) (v ∷ vs) = neither (shown_plain v k) (row_plain ks vs)

pub row_compact : (ks : List Kind) (vs : List Value) (d : Data) (text : List ℕ) → d ≡ json.array (shown_row ks vs) → (has_float d ≡ false → text ≡ compact_text d) → text ≡ compact_text (json.array (shown_row ks vs))
row_compact ks vs d text e h = h (ap has_float e ∙ row_plain ks vs) ∙ ap compact_text e
