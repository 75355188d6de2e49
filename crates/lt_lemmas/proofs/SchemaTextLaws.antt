-- A schema version that is written as a text reads back.
use Rattle.std.proofs.Common.{Bool, IsUtf8, List, [], ap, ap₂, arith, inl, inr, le-leb, leb-true, lt-ltb, ltb-true, map, negsuc, pos, refl, sym, true, ℕ, ℤ, ◌%◌, ◌+◌, ◌/◌, ◌<◌, ◌^◌, ◌∙◌, ◌∷◌, ◌≡◌, ◌≤◌}
use Rattle.serde_json.specs.Data.{Data}
use Rattle.std.specs.Prelude.{IsTrue, None, Ok, Option, Some, nat_le, nat_lt, option_and_then, option_map, ◌&&◌, ◌-◌, ◌==◌}
use Rattle.std.specs.List.{list_all}
use Rattle.std.proofs.lemmas.Bool.{and_from, and_parts, cases_lt, eqb-true, false≢true, le-ltb, lt-leb}
use Rattle.json.proofs.Printed.Utf8.{IsUtf8-are_ascii, are_ascii}
use Rattle.std.specs.Str.{is_utf8}
use Rattle.std.proofs.lemmas.Str.{IsUtf8-from_is_utf8, is_utf8-from_IsUtf8}
use Rattle.std.specs.Option.{option_map_or}
use Rattle.serde_json.specs.Read.{max_depth}
use Rattle.lt_terms.specs.Value.{Fields, Value, bool_value, bytes_value, field_value, fits_32, fits_64, int_value, no_fields, null_value, struct_value, text_value}
use Rattle.lt_terms.specs.declared.Rank.{Rank}
use Rattle.lt_terms.specs.Kind.{FieldKinds, Kind, enumeration, field_kind, no_kinds, plain, structured}
use Rattle.lt_terms.specs.declared.KeyKind.{KeyKind}
use Rattle.lt_tables.specs.Schema.{Column, KeyColumn, SchemaVersion, when}
use Rattle.lt_tables.specs.Query.{hex_digit, hex_pairs}
use Rattle.lt_words.specs.SchemaText.{TextReadsBack, all_of, are_spelled_kinds, as_number_up_to, as_whole, column_data, column_in, column_members, columns_in, default_in, defaults_in, enum_name, field_items, has_form, have_forms, hex_glyph, hex_string, hex_text, is_spellable, is_spelled_column, is_spelled_kind, item_list, items_from, key_column, key_kind_name, key_kind_named, kind_data, kind_in, number_data, plain_data, plain_items, rank_name, rank_named, triples, two, up_to, version_data, version_in, version_of_text, version_text, with_field}
use Rattle.lt_lemmas.proofs.JsonLaws.{ArePlain, IsPlain, MembersArePlain, text_reads, text_utf8, whole_integer}
use Rattle.lt_lemmas.proofs.ConversionLemmas.{fits_wider}
use Rattle.serde_json.specs.Data as json
use Rattle.lt_terms.specs.declared.Rank.TheVariants as rank
use Rattle.lt_terms.specs.declared.KeyKind.TheVariants as key_kind

-- ---- lists

items_list : (ds : List Data) → item_list (items_from ds) ≡ ds
items_list [] = refl
items_list (d ∷ ds) = ap (λ (es : List Data). d ∷ es) (items_list ds)

-- what is written of each reads back, where it passes the test
all_read : {A B : Type 0} (test : A → Bool) (write : A → B) (read_one : B → Option A) → ((x : A) → IsTrue (test x) → read_one (write x) ≡ Some x)
    → (xs : List A) → IsTrue (list_all test xs) → all_of read_one (map write xs) ≡ Some xs
all_read test write read_one f [] h = refl
all_read test write read_one f (x ∷ xs) h =
    let p = and_parts (test x) (list_all test xs) h in
    ap (option_and_then (λ y. option_map (λ ys. y ∷ ys) (all_of read_one (map write xs)))) (f x p.0) ∙ ap (option_map (λ ys. x ∷ ys)) (all_read test write read_one f xs p.1)

all_plain : {A : Type 0} (test : A → Bool) (write : A → Data) → ((x : A) → IsTrue (test x) → IsPlain (write x)) → (xs : List A) → IsTrue (list_all test xs) → ArePlain (items_from (map write xs))
all_plain test write f [] h = tt
all_plain test write f (x ∷ xs) h = let p = and_parts (test x) (list_all test xs) h in (f x p.0, all_plain test write f xs p.1)

-- ---- numbers

whole_read : (z : ℤ) → IsTrue (fits_64 z) → as_whole (number_data z) ≡ Some z
whole_read (pos n) h = rw h refl
whole_read (negsuc n) h = refl

fits_pos : (n : ℕ) → n < 2 ^ 63 → IsTrue (fits_64 (pos n))
fits_pos n h = lt-ltb n (2 ^ 63) h

number_read : (most n : ℕ) → n ≤ most → most < 2 ^ 63 → as_number_up_to most (number_data (pos n)) ≡ Some n
number_read most n h small = ap (option_and_then (up_to most)) (whole_read (pos n) (fits_pos n (omega (arith, h, small)))) ∙ ap (λ b. when b n) (le-leb n most h)

-- ---- bytes

-- a hexadecimal digit is ASCII and reads back
hex_read : (d : ℕ) → d < 16 → (hex_digit (hex_glyph d) ≡ Some d) × (hex_glyph d < 128)
hex_read d h = elim (cases_lt d 10) [
  | inl low ↦
      let one : 48 ≤ 48 + d = omega arith in
      let two : 48 + d ≤ 57 = omega (arith, low) in
      (rw (lt-ltb d 10 low, le-leb 48 (48 + d) one, le-leb (48 + d) 57 two) (ap Some (omega arith)), rw (lt-ltb d 10 low) (omega (arith, low)))
  | inr high ↦
      let one : 48 ≤ 87 + d = omega arith in
      let above : 57 < 87 + d = omega (arith, high) in
      let two : 97 ≤ 87 + d = omega (arith, high) in
      let three : 87 + d ≤ 102 = omega (arith, h) in
      (rw (le-ltb d 10 high, le-leb 48 (87 + d) one, lt-leb (87 + d) 57 above, le-leb 97 (87 + d) two, le-leb (87 + d) 102 three) (ap Some (omega arith)), rw (le-ltb d 10 high) (omega (arith, h)))
]

pairs_read : (bs : List ℕ) → IsTrue (list_all (λ b. nat_lt b 256) bs) → hex_pairs (hex_text bs) ≡ Some bs
pairs_read [] h = refl
pairs_read (b ∷ bs) h =
    let p = and_parts (nat_lt b 256) (list_all (λ b. nat_lt b 256) bs) h in
    let small : b < 256 = ltb-true b 256 p.0 in
    rw ((hex_read (b / 16) (omega (arith, small))).0, (hex_read (b % 16) (omega arith)).0, pairs_read bs p.1) (ap (λ n. Some (n ∷ bs)) (omega arith))

pairs_ascii : (bs : List ℕ) → IsTrue (list_all (λ b. nat_lt b 256) bs) → are_ascii (hex_text bs) ≡ true
pairs_ascii [] h = refl
pairs_ascii (b ∷ bs) h =
    let p = and_parts (nat_lt b 256) (list_all (λ b. nat_lt b 256) bs) h in
    let small : b < 256 = ltb-true b 256 p.0 in
    and_from _ _ (lt-ltb _ 128 (hex_read (b / 16) (omega (arith, small))).1) (and_from _ _ (lt-ltb _ 128 (hex_read (b % 16) (omega arith)).1) (pairs_ascii bs p.1))

-- ---- kinds

rank_plain : (r : Rank) → IsUtf8 (rank_name r)
rank_plain rank.Bool = IsUtf8-are_ascii _ refl
rank_plain rank.Int32 = IsUtf8-are_ascii _ refl
rank_plain rank.Int64 = IsUtf8-are_ascii _ refl
rank_plain rank.Text = IsUtf8-are_ascii _ refl
rank_plain rank.Bytes = IsUtf8-are_ascii _ refl

rank_read : (r : Rank) → rank_named (rank_name r) ≡ Some r
rank_read rank.Bool = refl
rank_read rank.Int32 = refl
rank_read rank.Int64 = refl
rank_read rank.Text = refl
rank_read rank.Bytes = refl

-- an enum's number and name
abbrev is_spelled_name : ℤ × List ℕ → Bool
is_spelled_name n = fits_32 n.0 && is_utf8 n.1

abbrev name_data : ℤ × List ℕ → Data
name_data n = two (number_data n.0) (json.string n.1)

name_plain : (n : ℤ × List ℕ) → IsTrue (is_spelled_name n) → IsPlain (name_data n)
name_plain n h = let p = and_parts (fits_32 n.0) (is_utf8 n.1) h in (whole_integer n.0 (fits_wider n.0 p.0), (IsUtf8-from_is_utf8 n.1 p.1, tt))

name_read : (n : ℤ × List ℕ) → IsTrue (is_spelled_name n) → enum_name (name_data n) ≡ Some n
name_read n h =
    let p = and_parts (fits_32 n.0) (is_utf8 n.1) h in
    ap (option_and_then (λ z. when (fits_32 z) (z, n.1))) (whole_read n.0 (fits_wider n.0 p.0)) ∙ ap (λ b. when b n) p.0

record SpelledField (n : ℕ) (name : List ℕ) (k : Kind) (ks : FieldKinds) : Type 0 where
  fits : n < 65536
  utf8 : IsTrue (is_utf8 name)
  kind : IsTrue (is_spelled_kind k)
  rest : IsTrue (are_spelled_kinds ks)

field_parts : (n : ℕ) (name : List ℕ) (k : Kind) (ks : FieldKinds) → IsTrue (are_spelled_kinds (field_kind n name k ks)) → SpelledField n name k ks
field_parts n name k ks h =
    let a = and_parts (nat_lt n 65536 && is_utf8 name && is_spelled_kind k) (are_spelled_kinds ks) h in
    let b = and_parts (nat_lt n 65536 && is_utf8 name) (is_spelled_kind k) a.0 in
    let c = and_parts (nat_lt n 65536) (is_utf8 name) b.0 in
    record { fits = ltb-true n 65536 c.0; utf8 = c.1; kind = b.1; rest = a.1 }

mutual
  kind_plain : (k : Kind) → IsTrue (is_spelled_kind k) → IsPlain (kind_data k)
  kind_plain (plain r) h = rank_plain r
  kind_plain (enumeration names) h = (refl, (IsUtf8-are_ascii _ refl, all_plain is_spelled_name name_data name_plain names h, tt))
  kind_plain (structured ks) h = (refl, (IsUtf8-are_ascii _ refl, fields_plain ks h, tt))

  fields_plain : (ks : FieldKinds) → IsTrue (are_spelled_kinds ks) → ArePlain (field_items ks)
  fields_plain no_kinds h = tt
  fields_plain (field_kind n name k ks) h =
      let f = field_parts n name k ks h in
      ((whole_integer (pos n) (fits_pos n (omega (arith, f.fits))), (IsUtf8-from_is_utf8 name f.utf8, (kind_plain k f.kind, tt))), fields_plain ks f.rest)

mutual
  kind_read : (k : Kind) → IsTrue (is_spelled_kind k) → kind_in (kind_data k) ≡ Some k
  kind_read (plain r) h = ap (option_map plain) (rank_read r)
  kind_read (enumeration names) h = ap (λ (ds : List Data). option_map enumeration (all_of enum_name ds)) (items_list (map name_data names)) ∙ ap (option_map enumeration) (all_read is_spelled_name name_data enum_name name_read names h)
  kind_read (structured ks) h = ap (option_map structured) (fields_read ks h)

  fields_read : (ks : FieldKinds) → IsTrue (are_spelled_kinds ks) → triples (field_items ks) ≡ Some ks
  fields_read no_kinds h = refl
  fields_read (field_kind n name k ks) h =
      let f = field_parts n name k ks h in
      ap (λ m. with_field m (Some name) (kind_in (kind_data k)) (triples (field_items ks))) (number_read 65535 n (omega (arith, f.fits)) (omega arith))
      ∙ ap₂ (with_field (Some n) (Some name)) (kind_read k f.kind) (fields_read ks f.rest)

-- ---- defaults

bytes_plain : (bs : List ℕ) → IsTrue (list_all (λ b. nat_lt b 256) bs) → IsUtf8 (hex_string bs)
bytes_plain bs h = IsUtf8-are_ascii (hex_string bs) (pairs_ascii bs h)

record HasForms (n : ℕ) (v : Value) (fs : Fields) (m : ℕ) (k : Kind) (ks : FieldKinds) : Type 0 where
  same : n ≡ m
  form : IsTrue (has_form v k)
  rest : IsTrue (have_forms fs ks)

form_parts : (n : ℕ) (v : Value) (fs : Fields) (m : ℕ) (name : List ℕ) (k : Kind) (ks : FieldKinds) → IsTrue (have_forms (field_value n v fs) (field_kind m name k ks)) → HasForms n v fs m k ks
form_parts n v fs m name k ks h =
    let a = and_parts (n == m && has_form v k) (have_forms fs ks) h in
    let b = and_parts (n == m) (has_form v k) a.0 in
    record { same = eqb-true n m b.0; form = b.1; rest = a.1 }

mutual
  value_plain : (v : Value) (k : Kind) → IsTrue (has_form v k) → IsPlain (plain_data v)
  value_plain null_value k h = tt
  value_plain (bool_value b) k h = tt
  value_plain (int_value z) (plain rank.Int32) h = whole_integer z h
  value_plain (int_value z) (plain rank.Int64) h = whole_integer z h
  value_plain (int_value z) (enumeration names) h = whole_integer z h
  value_plain (text_value t) (plain rank.Text) h = IsUtf8-from_is_utf8 t h
  value_plain (bytes_value bs) (plain rank.Bytes) h = bytes_plain bs h
  value_plain (struct_value fs) (structured ks) h = values_plain fs ks h
  value_plain (int_value z) k h = absurd (false≢true h)
  value_plain (text_value t) k h = absurd (false≢true h)
  value_plain (bytes_value bs) k h = absurd (false≢true h)
  value_plain (struct_value fs) k h = absurd (false≢true h)

  values_plain : (fs : Fields) (ks : FieldKinds) → IsTrue (have_forms fs ks) → ArePlain (plain_items fs)
  values_plain no_fields ks h = tt
  values_plain (field_value n v fs) no_kinds h = absurd (false≢true h)
  values_plain (field_value n v fs) (field_kind m name k ks) h = let f = form_parts n v fs m name k ks h in (value_plain v k f.form, values_plain fs ks f.rest)

mutual
  value_read : (v : Value) (k : Kind) → IsTrue (has_form v k) → default_in (plain_data v) k ≡ Some v
  value_read null_value (plain r) h = refl
  value_read null_value (enumeration names) h = refl
  value_read null_value (structured ks) h = refl
  value_read (bool_value b) (plain rank.Bool) h = refl
  value_read (int_value z) (plain rank.Int32) h = ap (option_map int_value) (whole_read z h)
  value_read (int_value z) (plain rank.Int64) h = ap (option_map int_value) (whole_read z h)
  value_read (int_value z) (enumeration names) h = ap (option_map int_value) (whole_read z h)
  value_read (text_value t) (plain rank.Text) h = refl
  value_read (bytes_value bs) (plain rank.Bytes) h = ap (option_map bytes_value) (pairs_read bs h)
  value_read (struct_value fs) (structured ks) h = ap (option_map struct_value) (values_read fs ks h)
  value_read (bool_value b) k h = absurd (false≢true h)
  value_read (int_value z) k h = absurd (false≢true h)
  value_read (text_value t) k h = absurd (false≢true h)
  value_read (bytes_value bs) k h = absurd (false≢true h)
  value_read (struct_value fs) k h = absurd (false≢true h)

  values_read : (fs : Fields) (ks : FieldKinds) → IsTrue (have_forms fs ks) → defaults_in (item_list (plain_items fs)) ks ≡ Some fs
  values_read no_fields no_kinds h = refl
  values_read no_fields (field_kind m name k ks) h = absurd (false≢true h)
  values_read (field_value n v fs) no_kinds h = absurd (false≢true h)
  values_read (field_value n v fs) (field_kind m name k ks) h =
      let f = form_parts n v fs m name k ks h in
      ap (option_and_then (λ w. option_map (field_value m w) (defaults_in (item_list (plain_items fs)) ks))) (value_read v k f.form)
      ∙ ap (option_map (field_value m v)) (values_read fs ks f.rest) ∙ ap (λ i. Some (field_value i v fs)) (sym f.same)

-- ---- key columns

key_kind_plain : (k : KeyKind) → IsUtf8 (key_kind_name k)
key_kind_plain key_kind.Int64 = IsUtf8-are_ascii _ refl
key_kind_plain key_kind.Text = IsUtf8-are_ascii _ refl

abbrev key_data : KeyColumn → Data
key_data k = two (json.string k.name) (json.string (key_kind_name k.kind))

key_plain : (k : KeyColumn) → IsTrue (is_utf8 k.name) → IsPlain (key_data k)
key_plain k h = (IsUtf8-from_is_utf8 k.name h, (key_kind_plain k.kind, tt))

key_kind_read : (k : KeyKind) → key_kind_named (key_kind_name k) ≡ Some k
key_kind_read key_kind.Int64 = refl
key_kind_read key_kind.Text = refl

key_read : (k : KeyColumn) → IsTrue (is_utf8 k.name) → key_column (key_data k) ≡ Some k
key_read k h = ap (option_map (λ (kind : KeyKind). record { name = k.name; kind = kind })) (key_kind_read k.kind)

-- ---- columns

abbrev has_default_form : Kind → Option Value → Bool
has_default_form k o = option_map_or (λ v. has_form v k) o true

record SpelledColumn (n : ℕ) (name : List ℕ) (k : Kind) (o : Option Value) : Type 0 where
  fits : n < 65536
  utf8 : IsTrue (is_utf8 name)
  kind : IsTrue (is_spelled_kind k)
  form : IsTrue (has_default_form k o)

column_parts : (c : Column) → IsTrue (is_spelled_column c) → SpelledColumn c.number c.name c.kind c.fallback
column_parts c h =
    let p = and_parts (nat_lt c.number 65536 && is_utf8 c.name && is_spelled_kind c.kind) (has_default_form c.kind c.fallback) h in
    let q = and_parts (nat_lt c.number 65536 && is_utf8 c.name) (is_spelled_kind c.kind) p.0 in
    let r = and_parts (nat_lt c.number 65536) (is_utf8 c.name) q.0 in
    record { fits = ltb-true c.number 65536 r.0; utf8 = r.1; kind = q.1; form = p.1 }

members_plain : (c : Column) → SpelledColumn c.number c.name c.kind c.fallback → MembersArePlain (column_members c)
members_plain c h = (
  IsUtf8-are_ascii _ refl,
  kind_plain c.kind h.kind,
  (IsUtf8-are_ascii _ refl, IsUtf8-from_is_utf8 c.name h.utf8, (IsUtf8-are_ascii _ refl, whole_integer (pos c.number) (fits_pos c.number (omega (arith, h.fits))), tt)),
)

column_plain_by : (n : ℕ) (name : List ℕ) (k : Kind) (o : Option Value) → SpelledColumn n name k o → IsPlain (column_data (record { number = n; name = name; kind = k; fallback = o }))
column_plain_by n name k None h = (refl, members_plain (record { number = n; name = name; kind = k; fallback = None }) h)
column_plain_by n name k (Some v) h = (refl, (IsUtf8-are_ascii _ refl, value_plain v k h.form, members_plain (record { number = n; name = name; kind = k; fallback = Some v }) h))

column_plain : (c : Column) → IsTrue (is_spelled_column c) → IsPlain (column_data c)
column_plain c h = column_plain_by c.number c.name c.kind c.fallback (column_parts c h)

column_read_by : (n : ℕ) (name : List ℕ) (k : Kind) (o : Option Value) → SpelledColumn n name k o
    → column_in (column_data (record { number = n; name = name; kind = k; fallback = o })) ≡ Ok (record { number = n; name = name; kind = k; fallback = o })
column_read_by n name k None h = rw (number_read 65535 n (omega (arith, h.fits)) (omega arith), kind_read k h.kind) refl
column_read_by n name k (Some v) h = rw (number_read 65535 n (omega (arith, h.fits)) (omega arith), kind_read k h.kind, value_read v k h.form) refl

columns_read : (cs : List Column) → IsTrue (list_all is_spelled_column cs) → columns_in (map column_data cs) ≡ Ok cs
columns_read [] h = refl
columns_read (c ∷ cs) h =
    let p = and_parts (is_spelled_column c) (list_all is_spelled_column cs) h in
    rw (column_read_by c.number c.name c.kind c.fallback (column_parts c p.0), columns_read cs p.1) refl

-- ---- versions

record Spelled (v : SchemaVersion) : Type 0 where
  table : IsTrue (is_utf8 v.table)
  number : v.number < 2 ^ 32
  version : v.version < 2 ^ 32
  key : IsTrue (list_all (λ k. is_utf8 k.name) v.key)
  columns : IsTrue (list_all is_spelled_column v.columns)
  shallow : json.depth (version_data v) ≤ max_depth

version_parts : (v : SchemaVersion) → IsTrue (is_spellable v) → Spelled v
version_parts v h =
    let keys = list_all (λ k. is_utf8 k.name) v.key in
    let columns = list_all is_spelled_column v.columns in
    let a = and_parts (is_utf8 v.table && nat_lt v.number (2 ^ 32) && nat_lt v.version (2 ^ 32) && keys && columns) (nat_le (json.depth (version_data v)) max_depth) h in
    let b = and_parts (is_utf8 v.table && nat_lt v.number (2 ^ 32) && nat_lt v.version (2 ^ 32) && keys) columns a.0 in
    let c = and_parts (is_utf8 v.table && nat_lt v.number (2 ^ 32) && nat_lt v.version (2 ^ 32)) keys b.0 in
    let d = and_parts (is_utf8 v.table && nat_lt v.number (2 ^ 32)) (nat_lt v.version (2 ^ 32)) c.0 in
    let e = and_parts (is_utf8 v.table) (nat_lt v.number (2 ^ 32)) d.0 in
    record { table = e.0; number = ltb-true v.number (2 ^ 32) e.1; version = ltb-true v.version (2 ^ 32) d.1; key = c.1; columns = b.1; shallow = leb-true _ max_depth a.1 }

version_plain : (v : SchemaVersion) → Spelled v → IsPlain (version_data v)
version_plain v h = (
  refl,
  (
    IsUtf8-are_ascii _ refl,
    all_plain is_spelled_column column_data column_plain v.columns h.columns,
    (
      IsUtf8-are_ascii _ refl,
      all_plain (λ (k : KeyColumn). is_utf8 k.name) key_data key_plain v.key h.key,
      (
        IsUtf8-are_ascii _ refl,
        whole_integer (pos v.number) (fits_pos v.number (omega (arith, h.number))),
        (IsUtf8-are_ascii _ refl, IsUtf8-from_is_utf8 v.table h.table, (IsUtf8-are_ascii _ refl, whole_integer (pos v.version) (fits_pos v.version (omega (arith, h.version))), tt)),
      ),
    ),
  ),
)

version_read : (v : SchemaVersion) → Spelled v → version_in (version_data v) ≡ Ok v
version_read v h =
    rw (
      items_list (map key_data v.key),
      all_read (λ (k : KeyColumn). is_utf8 k.name) key_data key_column key_read v.key h.key,
      items_list (map column_data v.columns),
      number_read (2 ^ 32 - 1) v.number (omega (arith, h.number)) (omega arith),
      number_read (2 ^ 32 - 1) v.version (omega (arith, h.version)) (omega arith),
      columns_read v.columns h.columns,
    ) refl

pub text_reads_back : TextReadsBack
unfolding version_of_text
text_reads_back v h =
    let s = version_parts v h in
    let plain = version_plain v s in
    let utf8 : is_utf8 (version_text v) ≡ true = is_utf8-from_IsUtf8 (version_text v) (text_utf8 (version_data v) plain) in
    rw (utf8, text_reads (version_data v) plain s.shallow) (version_read v s)
