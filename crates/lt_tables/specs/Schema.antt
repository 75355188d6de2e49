-- Schema versions, the catalogue that holds them, and which versions may be added.
use Rattle.std.specs.Prelude.{Bool, Err, IfSome, List, None, Ok, Option, Result, Some, [], false, filter, filter_map, find, flat_map, fold, if◌then◌else◌, int_lt, is_none, is_some, length, map, nat_eq, nat_le, nat_lt, not, option_and_then, option_map, pos, slice_get, suc, true, unwrap_or, zero, ℕ, ℤ, ◌&&◌, ◌++◌, ◌+◌, ◌-◌, ◌==◌, ◌||◌, ◌∷◌, ◌≡◌}
use Rattle.std.specs.Option.{option_map_or, option_or}
use Rattle.std.specs.List.{list_all, list_any}
use Rattle.std.specs.Cmp.Lexicographic.{pointwise}
use Rattle.lt_terms.specs.declared.KeyKind.{KeyKind}
use Rattle.lt_terms.specs.Value.{Value, fits_32, is_number, null_value}
use Rattle.lt_terms.specs.Kind.{FieldKinds, Kind, enumeration, field_kind, greater_rank, has_shape, is_struct, kind_at, kinds_of, nesting, no_kinds, plain, rank_of, structured}
use Rattle.lt_terms.specs.Conversion.{same_bytes}
use Rattle.lt_terms.specs.Layout.{Leaf, layout_of}
use Rattle.lt_terms.specs.Log.{is_log_value}
use Rattle.lt_terms.specs.declared.Op.{Op}
use Rattle.lt_terms.specs.declared.Rank.TheVariants as rank
use Rattle.lt_terms.specs.declared.KeyKind.TheVariants as key_kind
use Rattle.lt_terms.specs.declared.Op.TheVariants as ops

-- ---- what is registered

pub record KeyColumn : Type 0 where
  pub name : List ℕ
  pub kind : KeyKind

-- a column's default is given where the column is first declared; none given means null
pub record Column : Type 0 where
  pub number : ℕ
  pub name : List ℕ
  pub kind : Kind
  pub fallback : Option Value

-- a version as it is handed in
pub record SchemaVersion : Type 0 where
  pub table : List ℕ
  pub number : ℕ
  pub version : ℕ
  pub key : List KeyColumn
  pub columns : List Column

-- a version in the catalogue, live until it is retired
pub record Registered : Type 0 where
  pub live : Bool
  pub columns : List Column

-- a table's versions stand in order, from version 1 on
pub record Table : Type 0 where
  pub number : ℕ
  pub name : List ℕ
  pub key : List KeyColumn
  pub versions : List Registered

-- tables by rising number
abbrev pub Catalogue : Type 0
Catalogue = List Table

-- ---- look-ups

abbrev pub table_numbered : Catalogue → ℕ → Option Table
table_numbered cat n = find (λ t. t.number == n) cat

abbrev pub table_named : Catalogue → List ℕ → Option Table
table_named cat name = find (λ t. same_bytes t.name name) cat

-- a table's version by number, from 1
abbrev pub registered : Table → ℕ → Option Registered
registered t zero = None
registered t (suc v) = slice_get t.versions v

abbrev pub whole_version : Table → ℕ → Registered → SchemaVersion
whole_version t v r = record { table = t.name; number = t.number; version = v; key = t.key; columns = r.columns }

abbrev pub schema_version : Catalogue → ℕ → ℕ → Option SchemaVersion
schema_version cat number v = option_and_then (λ t. option_map (whole_version t v) (registered t v)) (table_numbered cat number)

abbrev pub is_live : Catalogue → ℕ → ℕ → Bool
is_live cat number v = option_map_or (λ r. r.live) (option_and_then (λ t. registered t v) (table_numbered cat number)) false

abbrev pub column_numbered : List Column → ℕ → Option Column
column_numbered columns n = find (λ c. c.number == n) columns

abbrev pub has_column : ℕ → Registered → Bool
has_column n r = is_some (column_numbered r.columns n)

-- a column is live where some live version has it
abbrev pub column_live : Table → ℕ → Bool
column_live t n = list_any (λ r. r.live && has_column n r) t.versions

-- the default of a column: what was given where it was first declared, null where none was given; none where no version has the column
abbrev pub column_fallback : Table → ℕ → Option Value
column_fallback t n = option_map (λ r. unwrap_or (option_and_then (λ c. c.fallback) (column_numbered r.columns n)) null_value) (find (has_column n) t.versions)

abbrev pub fallback_in : Catalogue → ℕ → ℕ → Option Value
fallback_in cat number n = option_and_then (λ t. column_fallback t n) (table_numbered cat number)

-- what a column reads as where nothing set it
abbrev pub fallback : Table → ℕ → Value
fallback t n = unwrap_or (column_fallback t n) null_value

-- ---- carriers

-- a kind in which an enum stands as its rank
abbrev mutual
  pub bare : Kind → Kind
  bare (plain r) = plain r
  bare (enumeration names) = plain rank.Int32
  bare (structured ks) = structured (bare_fields ks)

  pub bare_fields : FieldKinds → FieldKinds
  bare_fields no_kinds = no_kinds
  bare_fields (field_kind n name k ks) = field_kind n name (bare k) (bare_fields ks)

-- the fields with one more, or with another in its place, by rising number
abbrev pub put_kind : ℕ → List ℕ → Kind → FieldKinds → FieldKinds
put_kind n name k no_kinds = field_kind n name k no_kinds
put_kind n name k (field_kind m other l ks) = if n == m then field_kind n name k ks else (if nat_lt n m then field_kind n name k (field_kind m other l ks) else field_kind m other l (put_kind n name k ks))

-- Each leaf at the greater rank, and every field that either has, under its later name.
abbrev mutual
  pub joined : Kind → Kind → Kind
  joined older (plain r) = plain (greater_rank (rank_of older) r)
  joined older (enumeration names) = plain (greater_rank (rank_of older) rank.Int32)
  joined older (structured ks) = structured (joined_fields (kinds_of older) ks)

  pub joined_fields : FieldKinds → FieldKinds → FieldKinds
  joined_fields older no_kinds = older
  joined_fields older (field_kind n name k ks) = put_kind n name (option_map_or (λ o. joined o k) (kind_at n older) (bare k)) (joined_fields older ks)

abbrev pub joined_all : List Kind → Option Kind
joined_all [] = None
joined_all (k ∷ ks) = Some (fold joined (bare k) ks)

-- the kinds that the versions, live or retired, give a column, the oldest first
abbrev pub kinds_given : List Registered → ℕ → List Kind
kinds_given versions n = filter_map (λ r. option_map (λ c. c.kind) (column_numbered r.columns n)) versions

-- The carrier of a column: its kind with each leaf at the greatest rank that any registered version gives it, and
-- with every field that any of them has.
unfoldable pub carrier : Table → ℕ → Option Kind
carrier t n = joined_all (kinds_given t.versions n)

-- ---- layouts

-- the number among others that rise, once
abbrev pub put_number : ℕ → List ℕ → List ℕ
put_number n [] = n ∷ []
put_number n (m ∷ ms) = if n == m then m ∷ ms else (if nat_lt n m then n ∷ m ∷ ms else m ∷ put_number n ms)

-- the numbers of the columns of all versions, rising
abbrev pub column_numbers : Table → List ℕ
column_numbers t = fold (λ ns c. put_number c.number ns) [] (flat_map (λ r. r.columns) t.versions)

abbrev pub carriers_of : Table → List ℕ → List (ℕ × Kind)
carriers_of t ns = filter_map (λ n. option_map (λ k. (n, k)) (carrier t n)) ns

-- the layout of a table's live columns in their carriers
unfoldable pub carrier_layout : Table → List Leaf
carrier_layout t = layout_of (carriers_of t (filter (column_live t) (column_numbers t)))

-- the layout that commands go by; an unknown table has none
abbrev pub carriers : Catalogue → ℕ → List Leaf
carriers cat number = option_map_or carrier_layout (table_numbered cat number) []

-- the layout of a version's columns in their own kinds
abbrev pub version_layout : List Column → List Leaf
version_layout columns = layout_of (map (λ c. (c.number, c.kind)) columns)

-- the leaves of the carriers of all columns of a table, live or not
abbrev pub leaf_count : Table → ℕ
leaf_count t = length (layout_of (carriers_of t (column_numbers t)))

-- ---- adding a version: why it is refused

pub data SchemaFault : Type 0 where
  bad_number : ℤ → SchemaFault
  bad_name : List ℕ → SchemaFault
  duplicate_name : List ℕ → SchemaFault
  too_deep : SchemaFault
  bad_default : ℕ → SchemaFault
  table_mismatch : ℕ → SchemaFault
  version_not_next : ℕ → SchemaFault
  key_changed : SchemaFault
  column_reused : ℕ → SchemaFault
  kind_changed : ℕ → SchemaFault
  default_given : ℕ → SchemaFault
  too_many : ℕ → SchemaFault

-- the first of what is found
abbrev pub first_of : {A : Type 0} → List (Option A) → Option A
first_of [] = None
first_of (o ∷ os) = option_or o (first_of os)

abbrev pub when : {A : Type 0} → Bool → A → Option A
when b a = if b then Some a else None

-- numbers: each from 1 to 65,535 and above the one before it; an enum's fit 32 bits and rise strictly
abbrev pub number_fault : ℕ → ℕ → Option ℤ
number_fault before n = when (not (is_number n && nat_lt before n)) (pos n)

abbrev pub numbers_fault : ℕ → List ℕ → Option ℤ
numbers_fault before [] = None
numbers_fault before (n ∷ ns) = option_or (number_fault before n) (numbers_fault n ns)

abbrev pub not_rising : List ℤ → Option ℤ
not_rising [] = None
not_rising (a ∷ []) = None
not_rising (a ∷ b ∷ rest) = if int_lt a b then not_rising (b ∷ rest) else Some b

abbrev pub field_numbers : FieldKinds → List ℕ
field_numbers no_kinds = []
field_numbers (field_kind n name k ks) = n ∷ field_numbers ks

abbrev pub field_names : FieldKinds → List (List ℕ)
field_names no_kinds = []
field_names (field_kind n name k ks) = name ∷ field_names ks

-- a kind is looked at from the outside in: the fields of a struct, and then their kinds
abbrev mutual
  pub number_fault_in : Kind → Option ℤ
  number_fault_in (plain r) = None
  number_fault_in (enumeration names) = option_or (find (λ z. not (fits_32 z)) (map (λ n. n.0) names)) (not_rising (map (λ n. n.0) names))
  number_fault_in (structured ks) = option_or (numbers_fault 0 (field_numbers ks)) (number_fault_within ks)

  pub number_fault_within : FieldKinds → Option ℤ
  number_fault_within no_kinds = None
  number_fault_within (field_kind n name k ks) = option_or (number_fault_in k) (number_fault_within ks)

abbrev pub column_number_fault : ℕ → List Column → Option ℤ
column_number_fault before [] = None
column_number_fault before (c ∷ cs) = first_of (number_fault before c.number ∷ number_fault_in c.kind ∷ column_number_fault c.number cs ∷ [])

abbrev pub any_number_fault : SchemaVersion → Option ℤ
any_number_fault v = first_of (number_fault 0 v.number ∷ when (v.version == 0) (pos 0) ∷ column_number_fault 0 v.columns ∷ [])

-- names: 1 to 64 bytes, an ASCII letter and then letters, digits and `_`
abbrev pub is_letter : ℕ → Bool
is_letter b = (nat_le 65 b && nat_le b 90) || (nat_le 97 b && nat_le b 122)

abbrev pub is_name_byte : ℕ → Bool
is_name_byte b = is_letter b || (nat_le 48 b && nat_le b 57) || (b == 95)

abbrev pub is_name : List ℕ → Bool
is_name [] = false
is_name (b ∷ bs) = is_letter b && list_all is_name_byte bs && nat_lt (length bs) 64

abbrev pub bad_name_of : List (List ℕ) → Option (List ℕ)
bad_name_of names = find (λ n. not (is_name n)) names

abbrev mutual
  pub bad_name_in : Kind → Option (List ℕ)
  bad_name_in (plain r) = None
  bad_name_in (enumeration names) = bad_name_of (map (λ n. n.1) names)
  bad_name_in (structured ks) = option_or (bad_name_of (field_names ks)) (bad_name_within ks)

  pub bad_name_within : FieldKinds → Option (List ℕ)
  bad_name_within no_kinds = None
  bad_name_within (field_kind n name k ks) = option_or (bad_name_in k) (bad_name_within ks)

abbrev pub any_bad_name : SchemaVersion → Option (List ℕ)
any_bad_name v = first_of (bad_name_of (v.table ∷ map (λ k. k.name) v.key) ∷ first_of (map (λ c. option_or (bad_name_of (c.name ∷ [])) (bad_name_in c.kind)) v.columns) ∷ [])

-- a name stands once among the key columns and columns, among the fields of a struct, and among the names of an enum
abbrev pub is_among : List (List ℕ) → List ℕ → Bool
is_among names name = list_any (same_bytes name) names

abbrev pub repeated : List (List ℕ) → List (List ℕ) → Option (List ℕ)
repeated before [] = None
repeated before (n ∷ ns) = option_or (when (is_among before n) n) (repeated (n ∷ before) ns)

abbrev mutual
  pub repeated_in : Kind → Option (List ℕ)
  repeated_in (plain r) = None
  repeated_in (enumeration names) = repeated [] (map (λ n. n.1) names)
  repeated_in (structured ks) = option_or (repeated [] (field_names ks)) (repeated_within ks)

  pub repeated_within : FieldKinds → Option (List ℕ)
  repeated_within no_kinds = None
  repeated_within (field_kind n name k ks) = option_or (repeated_in k) (repeated_within ks)

abbrev pub repeated_column : List (List ℕ) → List Column → Option (List ℕ)
repeated_column before [] = None
repeated_column before (c ∷ cs) = first_of (when (is_among before c.name) c.name ∷ repeated_in c.kind ∷ repeated_column (c.name ∷ before) cs ∷ [])

abbrev pub any_repeated : SchemaVersion → Option (List ℕ)
any_repeated v = option_or (repeated [] (map (λ k. k.name) v.key)) (repeated_column (map (λ k. k.name) v.key) v.columns)

-- structs nest at most 4 deep
abbrev pub is_too_deep : SchemaVersion → Bool
is_too_deep v = list_any (λ c. nat_lt 4 (nesting c.kind)) v.columns

-- a default has the shape of its column's kind, and is a value that logs can spell
abbrev pub bad_default_of : SchemaVersion → Option ℕ
bad_default_of v = option_map (λ c. c.number) (find (λ c. not (has_shape (unwrap_or c.fallback null_value) c.kind && is_log_value (unwrap_or c.fallback null_value))) v.columns)

-- a table number goes with one name, and a name with one number
abbrev pub is_mismatch : Catalogue → SchemaVersion → Bool
is_mismatch cat v = list_any (λ t. (t.number == v.number && not (same_bytes t.name v.table)) || (not (t.number == v.number) && same_bytes t.name v.table)) cat

abbrev pub versions_of : Catalogue → ℕ → List Registered
versions_of cat number = option_map_or (λ t. t.versions) (table_numbered cat number) []

abbrev pub latest : List Registered → List Column
latest [] = []
latest (r ∷ []) = r.columns
latest (r ∷ s ∷ rest) = latest (s ∷ rest)

-- key columns never change, and there are 1 to 8 of them
abbrev pub same_key_kind : KeyKind → KeyKind → Bool
same_key_kind key_kind.Int64 key_kind.Int64 = true
same_key_kind key_kind.Text key_kind.Text = true
same_key_kind key_kind.Int64 key_kind.Text = false
same_key_kind key_kind.Text key_kind.Int64 = false

abbrev pub same_key_columns : List KeyColumn → List KeyColumn → Bool
same_key_columns = pointwise (λ a b. same_bytes a.name b.name && same_key_kind a.kind b.kind)

abbrev pub is_key_changed : Catalogue → SchemaVersion → Bool
is_key_changed cat v = (length v.key == 0) || nat_lt 8 (length v.key) || option_map_or (λ t. not (same_key_columns t.key v.key)) (table_numbered cat v.number) false

-- a number that an older version has and the latest has not is never used again
abbrev pub reused_column : List Registered → List Column → Option ℕ
reused_column versions columns = option_map (λ c. c.number) (find (λ c. list_any (has_column c.number) versions && is_none (column_numbered (latest versions) c.number)) columns)

-- over all versions a column, and each field of it, stays primitive or stays a struct
abbrev mutual
  pub clash : Kind → Kind → Bool
  clash older (plain r) = is_struct older
  clash older (enumeration names) = is_struct older
  clash older (structured ks) = not (is_struct older) || clash_within (kinds_of older) ks

  pub clash_within : FieldKinds → FieldKinds → Bool
  clash_within older no_kinds = false
  clash_within older (field_kind n name k ks) = option_map_or (λ o. clash o k) (kind_at n older) false || clash_within older ks

abbrev pub changed_kind : List Registered → List Column → Option ℕ
changed_kind versions columns = option_map (λ c. c.number) (find (λ c. list_any (λ k. clash k c.kind) (kinds_given versions c.number)) columns)

-- a default is fixed where the column is first declared
abbrev pub default_again : List Registered → List Column → Option ℕ
default_again versions columns = option_map (λ c. c.number) (find (λ c. is_some c.fallback && is_some (column_numbered (latest versions) c.number)) columns)

-- ---- adding a version

abbrev pub live_version : List Column → Registered
live_version columns = record { live = true; columns = columns }

abbrev pub new_table : SchemaVersion → Table
new_table v = record { number = v.number; name = v.table; key = v.key; versions = live_version v.columns ∷ [] }

-- the catalogue with one version more, whether it is lawful or not
abbrev pub with_version : Catalogue → SchemaVersion → Catalogue
with_version [] v = new_table v ∷ []
with_version (t ∷ ts) v = if t.number == v.number then record t { versions = t.versions ++ live_version v.columns ∷ [] } ∷ ts
    else (if nat_lt v.number t.number then new_table v ∷ t ∷ ts else t ∷ with_version ts v)

-- limits: tables, versions of a table, column numbers over all its versions, leaves of its carriers, names of an enum
abbrev mutual
  pub enum_sizes : Kind → List ℕ
  enum_sizes (plain r) = []
  enum_sizes (enumeration names) = length names ∷ []
  enum_sizes (structured ks) = enum_sizes_within ks

  pub enum_sizes_within : FieldKinds → List ℕ
  enum_sizes_within no_kinds = []
  enum_sizes_within (field_kind n name k ks) = enum_sizes k ++ enum_sizes_within ks

abbrev pub over : ℕ → ℕ → Option ℕ
over most n = when (nat_lt most n) n

abbrev pub over_limit : Catalogue → SchemaVersion → Option ℕ
over_limit cat v = option_and_then (λ t. first_of (over 64 (length cat) ∷ over 256 (length t.versions) ∷ over 256 (length (column_numbers t)) ∷ over 1024 (leaf_count t)
    ∷ find (nat_lt 256) (flat_map (λ c. enum_sizes c.kind) v.columns) ∷ [])) (table_numbered cat v.number)

-- why a version is refused: the first of these that applies, each tested over the whole version
unfoldable pub schema_fault : Catalogue → SchemaVersion → Option SchemaFault
schema_fault cat v = let versions = versions_of cat v.number in first_of
    (option_map bad_number (any_number_fault v)
    ∷ option_map bad_name (any_bad_name v)
    ∷ option_map duplicate_name (any_repeated v)
    ∷ when (is_too_deep v) too_deep
    ∷ option_map bad_default (bad_default_of v)
    ∷ when (is_mismatch cat v) (table_mismatch v.number)
    ∷ when (not (v.version == length versions + 1)) (version_not_next (length versions + 1))
    ∷ when (is_key_changed cat v) key_changed
    ∷ option_map column_reused (reused_column versions v.columns)
    ∷ option_map kind_changed (changed_kind versions v.columns)
    ∷ option_map default_given (default_again versions v.columns)
    ∷ option_map too_many (over_limit (with_version cat v) v)
    ∷ [])

-- the answer of an addition
abbrev pub err_or : {A E : Type 0} → Option E → A → Result A E
err_or None a = Ok a
err_or (Some e) a = Err e

-- What a call answered is what a definition gives, unless memory ran out: a fault is None where memory ran out.
abbrev pub Gives : {X Y E F : Type 0} → (X → Y) → (E → Option F) → Result X E → Result Y F → Type 0
Gives view fault (Ok x) said = said ≡ Ok (view x)
Gives view fault (Err e) said = IfSome (fault e) (λ f. said ≡ Err f)

abbrev pub added : Catalogue → SchemaVersion → Result Catalogue SchemaFault
added cat v = err_or (schema_fault cat v) (with_version cat v)

-- ---- retiring a version

pub data RetireFault : Type 0 where
  unknown_table : RetireFault
  unknown_version : RetireFault
  already_retired : RetireFault
  last_version : RetireFault

-- the list with f of the element at a place in its place
abbrev pub change_at : {A : Type 0} → (A → A) → ℕ → List A → List A
change_at f n [] = []
change_at f zero (x ∷ xs) = f x ∷ xs
change_at f (suc n) (x ∷ xs) = x ∷ change_at f n xs

abbrev pub retired_version : Registered → Registered
retired_version r = record r { live = false }

abbrev pub with_retired : ℕ → Table → Table
with_retired v t = record t { versions = change_at retired_version (v - 1) t.versions }

abbrev pub without_version : Catalogue → ℕ → ℕ → Catalogue
without_version cat number v = map (λ t. if t.number == number then with_retired v t else t) cat

-- the latest version cannot be retired
abbrev pub retire_fault : Catalogue → ℕ → ℕ → Option RetireFault
retire_fault cat number v = if is_none (table_numbered cat number) then Some unknown_table
    else (if is_none (option_and_then (λ t. registered t v) (table_numbered cat number)) then Some unknown_version
    else (if not (is_live cat number v) then Some already_retired
    else when (v == length (versions_of cat number)) last_version))

abbrev pub retired : Catalogue → ℕ → ℕ → Result Catalogue RetireFault
retired cat number v = err_or (retire_fault cat number v) (without_version cat number v)

-- ---- lawful catalogues

-- a catalogue is lawful where lawful additions and retirements make it
pub data IsCatalogue : Catalogue → Type 0 where
  nothing_yet : IsCatalogue []
  after_adding : (cat : Catalogue) (v : SchemaVersion) → IsCatalogue cat → schema_fault cat v ≡ None → IsCatalogue (with_version cat v)
  after_retiring : (cat : Catalogue) (number v : ℕ) → IsCatalogue cat → retire_fault cat number v ≡ None → IsCatalogue (without_version cat number v)

-- the second is reached from the first by lawful additions and retirements
pub data Became (cat : Catalogue) : Catalogue → Type 0 where
  as_it_was : Became cat cat
  then_added : (c : Catalogue) (v : SchemaVersion) → Became cat c → schema_fault c v ≡ None → Became cat (with_version c v)
  then_retired : (c : Catalogue) (number v : ℕ) → Became cat c → retire_fault c number v ≡ None → Became cat (without_version c number v)

-- ---- the shape of what a change sets

abbrev pub key_kinds : List KeyColumn → List KeyKind
key_kinds key = map (λ k. k.kind) key

-- each value is set in a column of the version and has the shape of its kind
abbrev pub shapes_of : List Column → List (ℕ × Value) → Bool
shapes_of columns set = list_all (λ s. option_map_or (λ c. has_shape s.1 c.kind) (column_numbered columns s.0) false) set

abbrev pub same_numbers : List ℕ → List ℕ → Bool
same_numbers = pointwise nat_eq

-- A change has the shape of a version where its key is of the table's kinds, an insert sets exactly the version's
-- columns, an update some of them, and each value is null or of its column's kind.
abbrev pub sets_shape : Op → List Column → List (ℕ × Value) → Bool
sets_shape ops.Insert columns set = same_numbers (map (λ s. s.0) set) (map (λ c. c.number) columns) && shapes_of columns set
sets_shape ops.Update columns set = shapes_of columns set
sets_shape ops.Delete columns set = length set == 0

-- ---- manifest

abbrev pub key_kind_byte : KeyKind → ℕ
key_kind_byte key_kind.Int64 = 1
key_kind_byte key_kind.Text = 2
