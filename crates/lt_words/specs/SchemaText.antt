-- Schema versions as JSON texts.
use Rattle.std.specs.Prelude.{Bool, Err, IsTrue, List, None, Ok, Option, Result, Some, [], codes, false, find, flat_map, if◌then◌else◌, map, nat_le, nat_lt, negsuc, not, option_and_then, option_map, pos, true, ℕ, ℤ, ◌%◌, ◌&&◌, ◌++◌, ◌+◌, ◌-◌, ◌/◌, ◌==◌, ◌^◌, ◌∷◌, ◌≡◌}
use Rattle.serde_json.specs.Data.{Data, Items, Members}
use Rattle.serde_json.specs.Find.{as_i64, get_member, of_integer}
use Rattle.std.specs.Option.{option_map_or}
use Rattle.std.specs.Str.{is_utf8}
use Rattle.serde_json.specs.Read.{max_depth, read}
use Rattle.serde_json.specs.Written.{compact_text}
use Rattle.std.specs.List.{list_all}
use Rattle.lt_terms.specs.declared.Field.{Field}
use Rattle.lt_terms.specs.declared.Rank.{Rank}
use Rattle.lt_terms.specs.Conversion.{same_bytes}
use Rattle.lt_terms.specs.Value.{Fields, Value, bool_value, bytes_value, field_value, fits_32, fits_64, int_value, no_fields, null_value, struct_value, text_value}
use Rattle.lt_terms.specs.Kind.{FieldKinds, Kind, enumeration, field_kind, no_kinds, plain, structured}
use Rattle.lt_terms.specs.declared.KeyKind.{KeyKind}
use Rattle.lt_tables.specs.Schema.{Column, KeyColumn, SchemaVersion, fallback, is_among, when}
use Rattle.lt_tables.specs.Query.{hex_bytes}
use Rattle.serde_json.specs.Data as json
use Rattle.lt_terms.specs.declared.Rank.TheVariants as rank
use Rattle.lt_terms.specs.declared.KeyKind.TheVariants as key_kind
use Rattle.lt_terms.specs.declared.Field.TheVariants as member

-- ---- reading in steps, the first fault counts

infixl 10 ◌>>=◌
abbrev pub ◌>>=◌ : {A B E : Type 0} → Result A E → (A → Result B E) → Result B E
(Ok x) >>= f = f x
(Err e) >>= f = Err e

-- why a text is no schema version
pub data JsonFault : Type 0 where
  not_json : JsonFault
  unknown_member : List ℕ → JsonFault
  missing : Field → JsonFault
  wrong : Field → JsonFault

-- ---- parts of JSON values

abbrev pub item_list : Items → List Data
item_list json.no_items = []
item_list (json.item d ds) = d ∷ item_list ds

abbrev pub member_names : Members → List (List ℕ)
member_names json.no_members = []
member_names (json.member k d ms) = k ∷ member_names ms

abbrev pub as_members : Data → Option Members
as_members json.null = None
as_members (json.boolean b) = None
as_members (json.number n) = None
as_members (json.string s) = None
as_members (json.array ds) = None
as_members (json.object ms) = Some ms

abbrev pub as_list : Data → Option (List Data)
as_list json.null = None
as_list (json.boolean b) = None
as_list (json.number n) = None
as_list (json.string s) = None
as_list (json.array ds) = Some (item_list ds)
as_list (json.object ms) = None

abbrev pub as_text : Data → Option (List ℕ)
as_text json.null = None
as_text (json.boolean b) = None
as_text (json.number n) = None
as_text (json.string s) = Some s
as_text (json.array ds) = None
as_text (json.object ms) = None

-- a whole number within 64 signed bits
abbrev pub as_whole : Data → Option ℤ
as_whole json.null = None
as_whole (json.boolean b) = None
as_whole (json.number n) = as_i64 n
as_whole (json.string s) = None
as_whole (json.array ds) = None
as_whole (json.object ms) = None

-- a whole number from 0 up to a greatest one
abbrev pub up_to : ℕ → ℤ → Option ℕ
up_to most (pos n) = when (nat_le n most) n
up_to most (negsuc n) = None

abbrev pub as_number_up_to : ℕ → Data → Option ℕ
as_number_up_to most d = option_and_then (up_to most) (as_whole d)

-- what f gives of each, if it gives something of all
abbrev pub all_of : {A B : Type 0} → (A → Option B) → List A → Option (List B)
all_of f [] = Some []
all_of f (x ∷ xs) = option_and_then (λ y. option_map (λ ys. y ∷ ys) (all_of f xs)) (f x)

-- the members stand in byte order, so the first unknown one is the least
abbrev pub other_member : List (List ℕ) → Members → Option (List ℕ)
other_member known ms = find (λ k. not (is_among known k)) (member_names ms)

-- ---- kinds

abbrev pub rank_named : List ℕ → Option Rank
rank_named s = if same_bytes s (codes "bool") then Some rank.Bool else (if same_bytes s (codes "int32") then Some rank.Int32
    else (if same_bytes s (codes "int64") then Some rank.Int64 else (if same_bytes s (codes "text") then Some rank.Text
    else (if same_bytes s (codes "bytes") then Some rank.Bytes else None))))

-- a pair of a 32-bit number and a name
abbrev pub enum_name : Data → Option (ℤ × List ℕ)
enum_name json.null = None
enum_name (json.boolean b) = None
enum_name (json.number n) = None
enum_name (json.string s) = None
enum_name (json.object ms) = None
enum_name (json.array json.no_items) = None
enum_name (json.array (json.item n json.no_items)) = None
enum_name (json.array (json.item n (json.item s json.no_items))) = option_and_then (λ z. option_and_then (λ t. when (fits_32 z) (z, t)) (as_text s)) (as_whole n)
enum_name (json.array (json.item n (json.item s (json.item d ds)))) = None

abbrev pub with_field : Option ℕ → Option (List ℕ) → Option Kind → Option FieldKinds → Option FieldKinds
with_field n name k ks = option_and_then (λ n. option_and_then (λ name. option_and_then (λ k. option_map (field_kind n name k) ks) k) name) n

-- A kind is the name of a rank, `{"enum":..}` with pairs of number and name, or `{"struct":..}` with triples of number, name and kind.
abbrev mutual
  pub kind_in : Data → Option Kind
  kind_in json.null = None
  kind_in (json.boolean b) = None
  kind_in (json.number n) = None
  kind_in (json.string s) = option_map plain (rank_named s)
  kind_in (json.array ds) = None
  kind_in (json.object json.no_members) = None
  kind_in (json.object (json.member k d json.no_members)) = if same_bytes k (codes "enum") then option_map enumeration (option_and_then (all_of enum_name) (as_list d))
      else (if same_bytes k (codes "struct") then option_map structured (triples_in d) else None)
  kind_in (json.object (json.member k d (json.member l e ms))) = None

  pub triples_in : Data → Option FieldKinds
  triples_in json.null = None
  triples_in (json.boolean b) = None
  triples_in (json.number n) = None
  triples_in (json.string s) = None
  triples_in (json.array ds) = triples ds
  triples_in (json.object ms) = None

  pub triples : Items → Option FieldKinds
  triples json.no_items = Some no_kinds
  triples (json.item (json.array (json.item n (json.item name (json.item k json.no_items)))) ds) = with_field (as_number_up_to 65535 n) (as_text name) (kind_in k) (triples ds)
  triples (json.item d ds) = None

-- ---- defaults, read by their kind

abbrev pub default_at : Rank → Data → Option Value
default_at rank.Bool (json.boolean b) = Some (bool_value b)
default_at rank.Int32 d = option_map int_value (as_whole d)
default_at rank.Int64 d = option_map int_value (as_whole d)
default_at rank.Text d = option_map text_value (as_text d)
default_at rank.Bytes d = option_map bytes_value (option_and_then hex_bytes (as_text d))
default_at r d = None

abbrev pub is_json_null : Data → Bool
is_json_null json.null = true
is_json_null d = false

-- a struct's default is an array of its fields' values
abbrev mutual
  pub default_in : Data → Kind → Option Value
  default_in d (plain r) = if is_json_null d then Some null_value else default_at r d
  default_in d (enumeration names) = if is_json_null d then Some null_value else option_map int_value (as_whole d)
  default_in d (structured ks) = if is_json_null d then Some null_value else option_map struct_value (option_and_then (λ ds. defaults_in ds ks) (as_list d))

  pub defaults_in : List Data → FieldKinds → Option Fields
  defaults_in [] no_kinds = Some no_fields
  defaults_in (d ∷ ds) no_kinds = None
  defaults_in [] (field_kind n name k ks) = None
  defaults_in (d ∷ ds) (field_kind n name k ks) = option_and_then (λ v. option_map (field_value n v) (defaults_in ds ks)) (default_in d k)

-- ---- versions

-- a required member: missing, or not of its form, or its value
abbrev pub required : {A : Type 0} → Field → (Data → Option A) → Option Data → Result A JsonFault
required f form None = Err (missing f)
required f form (Some d) = option_map_or Ok (form d) (Err (wrong f))

abbrev pub key_kind_named : List ℕ → Option KeyKind
key_kind_named s = if same_bytes s (codes "int64") then Some key_kind.Int64 else (if same_bytes s (codes "text") then Some key_kind.Text else None)

-- a pair of a name and `int64` or `text`
abbrev pub key_column : Data → Option KeyColumn
key_column json.null = None
key_column (json.boolean b) = None
key_column (json.number n) = None
key_column (json.string s) = None
key_column (json.object ms) = None
key_column (json.array json.no_items) = None
key_column (json.array (json.item n json.no_items)) = None
key_column (json.array (json.item n (json.item k json.no_items))) = option_and_then (λ n. option_map (λ k. record { name = n; kind = k }) (option_and_then key_kind_named (as_text k))) (as_text n)
key_column (json.array (json.item n (json.item k (json.item d ds)))) = None

abbrev pub no_other : List (List ℕ) → Members → Result (Unit {0}) JsonFault
no_other known ms = option_map_or (λ k. Err (unknown_member k)) (other_member known ms) (Ok tt)

-- a default is optional
abbrev pub default_of : Kind → Option Data → Result (Option Value) JsonFault
default_of k None = Ok None
default_of k (Some d) = option_map_or (λ v. Ok (Some v)) (default_in d k) (Err (wrong member.Default))

abbrev pub column_in : Data → Result Column JsonFault
column_in d = do
  ms ← option_map_or Ok (as_members d) (Err (wrong member.Column))
  all_known ← no_other (codes "number" ∷ codes "name" ∷ codes "kind" ∷ codes "default" ∷ []) ms
  number ← required member.Number (as_number_up_to 65535) (get_member (codes "number") ms)
  name ← required member.Name as_text (get_member (codes "name") ms)
  kind ← required member.Kind kind_in (get_member (codes "kind") ms)
  fallback ← default_of kind (get_member (codes "default") ms)
  Ok (record { number = number; name = name; kind = kind; fallback = fallback })

abbrev pub columns_in : List Data → Result (List Column) JsonFault
columns_in [] = Ok []
columns_in (d ∷ ds) = do
  c ← column_in d
  cs ← columns_in ds
  Ok (c ∷ cs)

abbrev pub version_in : Data → Result SchemaVersion JsonFault
version_in d = do
  ms ← option_map_or Ok (as_members d) (Err (wrong member.Top))
  all_known ← no_other (codes "table" ∷ codes "number" ∷ codes "version" ∷ codes "key" ∷ codes "columns" ∷ []) ms
  table ← required member.Table as_text (get_member (codes "table") ms)
  number ← required member.Number (as_number_up_to (2 ^ 32 - 1)) (get_member (codes "number") ms)
  version ← required member.Version (as_number_up_to (2 ^ 32 - 1)) (get_member (codes "version") ms)
  key ← required member.Key (λ d. option_and_then (all_of key_column) (as_list d)) (get_member (codes "key") ms)
  columns ← required member.Columns as_list (get_member (codes "columns") ms)
  read_columns ← columns_in columns
  Ok (record { table = table; number = number; version = version; key = key; columns = read_columns })

-- the version that a text spells, or the first fault
unfoldable pub version_of_text : List ℕ → Result SchemaVersion JsonFault
version_of_text t = if is_utf8 t then option_map_or version_in (read t) (Err not_json) else Err not_json

-- ---- writing

abbrev pub items_from : List Data → Items
items_from [] = json.no_items
items_from (d ∷ ds) = json.item d (items_from ds)

abbrev pub number_data : ℤ → Data
number_data z = json.number (of_integer z)

abbrev pub hex_glyph : ℕ → ℕ
hex_glyph d = if nat_lt d 10 then 48 + d else 87 + d

-- lower-case pairs of hexadecimal digits
abbrev pub hex_text : List ℕ → List ℕ
hex_text bs = flat_map (λ b. hex_glyph (b / 16) ∷ hex_glyph (b % 16) ∷ []) bs

abbrev pub hex_string : List ℕ → List ℕ
hex_string bs = codes "0x" ++ hex_text bs

-- a value as JSON, without the names of an enum
abbrev mutual
  pub plain_data : Value → Data
  plain_data null_value = json.null
  plain_data (bool_value b) = json.boolean b
  plain_data (int_value z) = number_data z
  plain_data (text_value t) = json.string t
  plain_data (bytes_value b) = json.string (hex_string b)
  plain_data (struct_value fs) = json.array (plain_items fs)

  pub plain_items : Fields → Items
  plain_items no_fields = json.no_items
  plain_items (field_value n v fs) = json.item (plain_data v) (plain_items fs)

abbrev pub rank_name : Rank → List ℕ
rank_name rank.Bool = codes "bool"
rank_name rank.Int32 = codes "int32"
rank_name rank.Int64 = codes "int64"
rank_name rank.Text = codes "text"
rank_name rank.Bytes = codes "bytes"

abbrev pub three : Data → Data → Data → Data
three a b c = json.array (items_from (a ∷ b ∷ c ∷ []))

abbrev pub two : Data → Data → Data
two a b = json.array (items_from (a ∷ b ∷ []))

abbrev mutual
  pub kind_data : Kind → Data
  kind_data (plain r) = json.string (rank_name r)
  kind_data (enumeration names) = json.object (json.member (codes "enum") (json.array (items_from (map (λ n. two (number_data n.0) (json.string n.1)) names))) json.no_members)
  kind_data (structured ks) = json.object (json.member (codes "struct") (json.array (field_items ks)) json.no_members)

  pub field_items : FieldKinds → Items
  field_items no_kinds = json.no_items
  field_items (field_kind n name k ks) = json.item (three (number_data (pos n)) (json.string name) (kind_data k)) (field_items ks)

abbrev pub key_kind_name : KeyKind → List ℕ
key_kind_name key_kind.Int64 = codes "int64"
key_kind_name key_kind.Text = codes "text"

-- the members of an object stand in byte order of their names
abbrev pub column_members : Column → Members
column_members c = json.member (codes "kind") (kind_data c.kind) (json.member (codes "name") (json.string c.name) (json.member (codes "number") (number_data (pos c.number)) json.no_members))

abbrev pub column_data : Column → Data
column_data c = json.object (option_map_or (λ v. json.member (codes "default") (plain_data v) (column_members c)) c.fallback (column_members c))

abbrev pub version_data : SchemaVersion → Data
version_data v = json.object
    (json.member (codes "columns") (json.array (items_from (map column_data v.columns)))
    (json.member (codes "key") (json.array (items_from (map (λ k. two (json.string k.name) (json.string (key_kind_name k.kind))) v.key)))
    (json.member (codes "number") (number_data (pos v.number))
    (json.member (codes "table") (json.string v.table)
    (json.member (codes "version") (number_data (pos v.version)) json.no_members)))))

-- the text that a version is written as
abbrev pub version_text : SchemaVersion → List ℕ
version_text v = compact_text (version_data v)

-- ---- the versions that can be spelled

-- a value has the form in which a default of a kind is read
abbrev mutual
  pub has_form : Value → Kind → Bool
  has_form null_value k = true
  has_form (bool_value b) (plain rank.Bool) = true
  has_form (int_value z) (plain rank.Int32) = fits_64 z
  has_form (int_value z) (plain rank.Int64) = fits_64 z
  has_form (int_value z) (enumeration names) = fits_64 z
  has_form (text_value t) (plain rank.Text) = is_utf8 t
  has_form (bytes_value bs) (plain rank.Bytes) = list_all (λ b. nat_lt b 256) bs
  has_form (struct_value fs) (structured ks) = have_forms fs ks
  has_form v k = false

  pub have_forms : Fields → FieldKinds → Bool
  have_forms no_fields no_kinds = true
  have_forms (field_value n v fs) (field_kind m name k ks) = n == m && has_form v k && have_forms fs ks
  have_forms fs ks = false

abbrev mutual
  pub is_spelled_kind : Kind → Bool
  is_spelled_kind (plain r) = true
  is_spelled_kind (enumeration names) = list_all (λ n. fits_32 n.0 && is_utf8 n.1) names
  is_spelled_kind (structured ks) = are_spelled_kinds ks

  pub are_spelled_kinds : FieldKinds → Bool
  are_spelled_kinds no_kinds = true
  are_spelled_kinds (field_kind n name k ks) = nat_lt n (2 ^ 16) && is_utf8 name && is_spelled_kind k && are_spelled_kinds ks

abbrev pub is_spelled_column : Column → Bool
is_spelled_column c = nat_lt c.number (2 ^ 16) && is_utf8 c.name && is_spelled_kind c.kind && option_map_or (λ v. has_form v c.kind) c.fallback true

-- numbers within their sizes, names that are UTF-8, defaults in the form of their kinds, and no deeper than JSON is read
abbrev pub is_spellable : SchemaVersion → Bool
is_spellable v = is_utf8 v.table && nat_lt v.number (2 ^ 32) && nat_lt v.version (2 ^ 32) && list_all (λ k. is_utf8 k.name) v.key
    && list_all is_spelled_column v.columns && nat_le (json.depth (version_data v)) max_depth

-- what is written reads back
abbrev pub TextReadsBack : Type 0
TextReadsBack = (v : SchemaVersion) → IsTrue (is_spellable v) → version_of_text (version_text v) ≡ Ok v
