-- Values and key parts in lines: their texts are plain, shallow and read back.
use Rattle.std.proofs.Common.{Bool, List, [], ap, ap₂, arith, ltb-true, map, refl, suc, ℕ, ◌*◌, ◌+◌, ◌-◌, ◌<◌, ◌∙◌, ◌∷◌, ◌≡◌, ◌≤◌}
use Rattle.std.specs.Prelude.{IsTrue, Some, nat_lt, option_and_then, option_map, ◌&&◌}
use Rattle.std.specs.List.{list_all}
use Rattle.std.specs.Str.{is_utf8}
use Rattle.std.proofs.lemmas.Bool.{and_parts}
use Rattle.std.proofs.lemmas.Str.{IsUtf8-from_is_utf8}
use Rattle.json.proofs.Printed.Utf8.{IsUtf8-are_ascii}
use Rattle.serde_json.specs.Data.{Data, depth, items_depth}
use Rattle.lt_terms.specs.Key.{KeyPart, int_part, text_part}
use Rattle.lt_terms.specs.Log.{is_log_part, is_log_value}
use Rattle.lt_terms.specs.Value.{Fields, Value, are_fields, bool_value, bytes_value, field_value, int_value, is_number, is_value, no_fields, null_value, struct_value, text_value}
use Rattle.lt_words.specs.SchemaText.{all_of, item_list, items_from}
use Rattle.lt_lemmas.proofs.JsonLaws.{ArePlain, IsPlain, whole_integer}
use Rattle.lt_log_text.specs.Lines.{fields_have_bytes, has_bytes, pair_items, pairs_in, part_data, part_in, setting_data, setting_in, value_data, value_in, with_pair}
use Rattle.lt_log_text.proofs.Numbers.{bytes_plain, bytes_read, count_read, count_whole, whole_read}

pub items_list : (ds : List Data) → item_list (items_from ds) ≡ ds
items_list [] = refl
items_list (d ∷ ds) = ap (λ (es : List Data). d ∷ es) (items_list ds)

record FieldParts (deep n : ℕ) (v : Value) (fs : Fields) : Type 0 where
  fits : n < 65536
  value : IsTrue (is_value deep v)
  rest : IsTrue (are_fields deep n fs)
  bytes : IsTrue (has_bytes v)
  more : IsTrue (fields_have_bytes fs)

number_fits : (n : ℕ) → IsTrue (is_number n) → n < 65536
number_fits n h = ltb-true n 65536 (and_parts (nat_lt 0 n) (nat_lt n 65536) h).1

field_parts : (deep low n : ℕ) (v : Value) (fs : Fields) → IsTrue (are_fields deep low (field_value n v fs)) → IsTrue (fields_have_bytes (field_value n v fs)) → FieldParts deep n v fs
field_parts deep low n v fs h k =
    let a = and_parts (is_number n && nat_lt low n && is_value deep v) (are_fields deep n fs) h in
    let b = and_parts (is_number n && nat_lt low n) (is_value deep v) a.0 in
    let c = and_parts (is_number n) (nat_lt low n) b.0 in
    let d = and_parts (has_bytes v) (fields_have_bytes fs) k in
    record { fits = number_fits n c.0; value = b.1; rest = a.1; bytes = d.0; more = d.1 }

mutual
  pub value_read : (deep : ℕ) (v : Value) → IsTrue (is_value deep v) → IsTrue (has_bytes v) → value_in (value_data v) ≡ Some v
  value_read deep null_value h k = refl
  value_read deep (bool_value b) h k = refl
  value_read deep (int_value z) h k = ap (option_map int_value) (whole_read z h)
  value_read deep (text_value t) h k = refl
  value_read deep (bytes_value b) h k = ap (option_map bytes_value) (bytes_read b k)
  value_read deep (struct_value fs) h k = ap (option_map struct_value) (fields_read (deep - 1) 0 fs (and_parts (nat_lt 0 deep) (are_fields (deep - 1) 0 fs) h).1 k)

  fields_read : (deep low : ℕ) (fs : Fields) → IsTrue (are_fields deep low fs) → IsTrue (fields_have_bytes fs) → pairs_in (pair_items fs) ≡ Some fs
  fields_read deep low no_fields h k = refl
  fields_read deep low (field_value n v fs) h k =
      let f = field_parts deep low n v fs h k in
      ap (λ m. with_pair m (value_in (value_data v)) (pairs_in (pair_items fs))) (count_read 65535 n (omega (arith, f.fits)) (omega arith))
      ∙ ap₂ (with_pair (Some n)) (value_read deep v f.value f.bytes) (fields_read deep n fs f.rest f.more)

mutual
  pub value_plain : (deep : ℕ) (v : Value) → IsTrue (is_value deep v) → IsTrue (has_bytes v) → IsPlain (value_data v)
  value_plain deep null_value h k = tt
  value_plain deep (bool_value b) h k = tt
  value_plain deep (int_value z) h k = whole_integer z h
  value_plain deep (text_value t) h k = IsUtf8-from_is_utf8 t (and_parts (is_utf8 t) _ h).0
  value_plain deep (bytes_value b) h k = (refl, (IsUtf8-are_ascii _ refl, bytes_plain b k, tt))
  value_plain deep (struct_value fs) h k = fields_plain (deep - 1) 0 fs (and_parts (nat_lt 0 deep) (are_fields (deep - 1) 0 fs) h).1 k

  fields_plain : (deep low : ℕ) (fs : Fields) → IsTrue (are_fields deep low fs) → IsTrue (fields_have_bytes fs) → ArePlain (pair_items fs)
  fields_plain deep low no_fields h k = tt
  fields_plain deep low (field_value n v fs) h k =
      let f = field_parts deep low n v fs h k in
      ((count_whole n (omega (arith, f.fits)), (value_plain deep v f.value f.bytes, tt)), fields_plain deep n fs f.rest f.more)

deeper : (deep : ℕ) (fs : Fields) (d : ℕ) → IsTrue (nat_lt 0 deep) → d ≤ 2 * (deep - 1) + 2 → suc d ≤ 2 * deep + 1
deeper deep fs d h k = let some : 0 < deep = ltb-true 0 deep h in omega (arith, k, some)

mutual
  pub value_shallow : (deep : ℕ) (v : Value) → IsTrue (is_value deep v) → depth (value_data v) ≤ 2 * deep + 1
  value_shallow deep null_value h = omega arith
  value_shallow deep (bool_value b) h = omega arith
  value_shallow deep (int_value z) h = omega arith
  value_shallow deep (text_value t) h = omega arith
  value_shallow deep (bytes_value b) h = omega arith
  value_shallow deep (struct_value fs) h = let p = and_parts (nat_lt 0 deep) (are_fields (deep - 1) 0 fs) h in deeper deep fs _ p.0 (fields_shallow (deep - 1) 0 fs p.1)

  fields_shallow : (deep low : ℕ) (fs : Fields) → IsTrue (are_fields deep low fs) → items_depth (pair_items fs) ≤ 2 * deep + 2
  fields_shallow deep low no_fields h = omega arith
  fields_shallow deep low (field_value n v fs) h =
      let a = and_parts (is_number n && nat_lt low n && is_value deep v) (are_fields deep n fs) h in
      let b = and_parts (is_number n && nat_lt low n) (is_value deep v) a.0 in
      omega (arith, value_shallow deep v b.1, fields_shallow deep n fs a.1)

-- ---- what a change sets

abbrev is_setting : ℕ × Value → Bool
is_setting s = is_number s.0 && is_log_value s.1

setting_read : (s : ℕ × Value) → IsTrue (is_setting s) → IsTrue (has_bytes s.1) → setting_in (setting_data s) ≡ Some s
setting_read s h k =
    let p = and_parts (is_number s.0) (is_log_value s.1) h in
    ap (option_and_then (λ n. option_map (λ v. (n, v)) (value_in (value_data s.1)))) (count_read 65535 s.0 (omega (arith, number_fits s.0 p.0)) (omega arith))
    ∙ ap (option_map (λ v. (s.0, v))) (value_read 4 s.1 p.1 k)

pub set_read : (ss : List (ℕ × Value)) → IsTrue (list_all is_setting ss) → IsTrue (list_all (λ s. has_bytes s.1) ss) → all_of setting_in (map setting_data ss) ≡ Some ss
set_read [] h k = refl
set_read (s ∷ ss) h k =
    let p = and_parts (is_setting s) (list_all is_setting ss) h in
    let q = and_parts (has_bytes s.1) (list_all (λ s. has_bytes s.1) ss) k in
    ap (option_and_then (λ y. option_map (λ ys. y ∷ ys) (all_of setting_in (map setting_data ss)))) (setting_read s p.0 q.0)
    ∙ ap (option_map (λ ys. s ∷ ys)) (set_read ss p.1 q.1)

pub set_plain : (ss : List (ℕ × Value)) → IsTrue (list_all is_setting ss) → IsTrue (list_all (λ s. has_bytes s.1) ss) → ArePlain (items_from (map setting_data ss))
set_plain [] h k = tt
set_plain (s ∷ ss) h k =
    let p = and_parts (is_setting s) (list_all is_setting ss) h in
    let q = and_parts (has_bytes s.1) (list_all (λ s. has_bytes s.1) ss) k in
    let r = and_parts (is_number s.0) (is_log_value s.1) p.0 in
    ((count_whole s.0 (omega (arith, number_fits s.0 r.0)), (value_plain 4 s.1 r.1 q.0, tt)), set_plain ss p.1 q.1)

pub set_shallow : (ss : List (ℕ × Value)) → IsTrue (list_all is_setting ss) → items_depth (items_from (map setting_data ss)) ≤ 10
set_shallow [] h = omega arith
set_shallow (s ∷ ss) h =
    let p = and_parts (is_setting s) (list_all is_setting ss) h in
    let r = and_parts (is_number s.0) (is_log_value s.1) p.0 in
    omega (arith, value_shallow 4 s.1 r.1, set_shallow ss p.1)

-- ---- the parts of a key

part_read : (p : KeyPart) → IsTrue (is_log_part p) → part_in (part_data p) ≡ Some p
part_read (int_part z) h = ap (option_map int_part) (whole_read z h)
part_read (text_part t) h = refl

part_plain : (p : KeyPart) → IsTrue (is_log_part p) → IsPlain (part_data p)
part_plain (int_part z) h = whole_integer z h
part_plain (text_part t) h = IsUtf8-from_is_utf8 t (and_parts (is_utf8 t) _ h).0

part_shallow : (p : KeyPart) → depth (part_data p) ≤ 0
part_shallow (int_part z) = omega arith
part_shallow (text_part t) = omega arith

pub key_read : (ps : List KeyPart) → IsTrue (list_all is_log_part ps) → all_of part_in (map part_data ps) ≡ Some ps
key_read [] h = refl
key_read (x ∷ ps) h =
    let p = and_parts (is_log_part x) (list_all is_log_part ps) h in
    ap (option_and_then (λ y. option_map (λ ys. y ∷ ys) (all_of part_in (map part_data ps)))) (part_read x p.0)
    ∙ ap (option_map (λ ys. x ∷ ys)) (key_read ps p.1)

pub key_plain : (ps : List KeyPart) → IsTrue (list_all is_log_part ps) → ArePlain (items_from (map part_data ps))
key_plain [] h = tt
key_plain (x ∷ ps) h = let p = and_parts (is_log_part x) (list_all is_log_part ps) h in (part_plain x p.0, key_plain ps p.1)

pub key_shallow : (ps : List KeyPart) → items_depth (items_from (map part_data ps)) ≤ 0
key_shallow [] = omega arith
key_shallow (x ∷ ps) = omega (arith, part_shallow x, key_shallow ps)
