-- A lawful catalogue can be spelled: its numbers, names and counts fit their bytes.
use Rattle.std.proofs.Common.{Bool, List, [], ap, arith, cond, eq-eqb, false, length, lt-ltb, ltb-false, ltb-true, refl, suc, sym, true, zero, ℕ, ℤ, ◌++◌, ◌+◌, ◌-◌, ◌<◌, ◌^◌, ◌∙◌, ◌∷◌, ◌≡◌, ◌≤◌}
use Rattle.std.specs.Prelude.{IsTrue, None, Option, Some, find, flat_map, map, nat_lt, not, option_and_then, pos, unwrap_or, ◌&&◌, ◌==◌, ◌||◌}
use Rattle.std.proofs.lemmas.Bool.{and_from, and_parts, not-false, or_parts}
use Rattle.std.specs.List.{AllByRecursion, list_all}
use Rattle.std.specs.Option.{option_map_or, option_or}
use Rattle.std.proofs.lemmas.List.{length-map}
use Rattle.lt_terms.specs.Value.{Value, fits_32, is_number, null_value}
use Rattle.lt_terms.specs.Kind.{FieldKinds, Kind, enumeration, field_kind, has_shape, nesting, nestings, no_kinds, plain, structured}
use Rattle.lt_terms.specs.Log.{is_log_value}
use Rattle.lt_tables.specs.Schema.{Catalogue, Column, IsCatalogue, KeyColumn, Registered, SchemaVersion, Table, after_adding, after_retiring, any_bad_name, any_number_fault, bad_default, bad_default_of, bad_name, bad_name_in, bad_name_of, bad_name_within, bad_number, change_at, column_number_fault, column_numbers, enum_sizes, enum_sizes_within, field_names, field_numbers, first_of, is_key_changed, is_letter, is_name, is_name_byte, is_too_deep, key_changed, leaf_count, live_version, new_table, not_rising, nothing_yet, number_fault, number_fault_in, number_fault_within, numbers_fault, over, over_limit, retired_version, same_key_columns, schema_fault, table_numbered, too_deep, too_many, when, with_retired, with_version, without_version}
use Rattle.lt_codecs.proofs.ListFacts.{all_append, all_both, all_flat, all_front, all_map, all_of_map, all_pass, all_rest, any_none, find_none, none_mapped, or_left, or_right}
use Rattle.lt_codecs.proofs.LogTests.{IsShort}
use Rattle.lt_codecs.specs.Codec.{OptionalLawful, byte, bytes16, u16, u32}
use Rattle.lt_codecs.specs.LogCodec.{flag, log_value, value}
use Rattle.lt_lemmas.proofs.ListFacts.{all_none, when_none}
use Rattle.lt_lemmas.proofs.TableLaws.{all_faults, faults_of}
use Rattle.lt_store_codecs.specs.StoreCodec.{catalogue, column, key_column, key_kind, kind, kind_fits, kinds_fit, table, version}

-- ---- numbers and names

number_tests : (low n : ℕ) → number_fault low n ≡ None → (n < 2 ^ 16) × (low < n)
number_tests low n e =
    let t = and_parts (is_number n) (nat_lt low n) (not-false (is_number n && nat_lt low n) (when_none _ _ e)) in
    (ltb-true n (2 ^ 16) (and_parts (nat_lt 0 n) (nat_lt n (2 ^ 16)) t.0).1, ltb-true low n t.1)

-- rising numbers below 2^16 are fewer
few_numbers : (low : ℕ) (ns : List ℕ) → low < 2 ^ 16 → numbers_fault low ns ≡ None → length ns + low < 2 ^ 16
few_numbers low [] l e = omega (arith, l)
few_numbers low (n ∷ ns) l e =
    let t = number_tests low n (or_left (number_fault low n) (numbers_fault n ns) e) in
    omega (arith, t.1, few_numbers n ns t.0 (or_right (number_fault low n) (numbers_fault n ns) e))

short_name : (name : List ℕ) → not (is_name name) ≡ false → IsShort name
short_name [] e = omega arith
short_name (b ∷ bs) e = omega (arith, ltb-true (length bs) 64 (and_parts (is_letter b && list_all is_name_byte bs) (nat_lt (length bs) 64) (not-false (is_name (b ∷ bs)) e)).1)

short_names : (names : List (List ℕ)) → bad_name_of names ≡ None → AllByRecursion IsShort names
short_names names e = all_map (λ n. not (is_name n) ≡ false) IsShort names short_name (find_none (λ n. not (is_name n)) names e)

-- ---- kinds

names_spelled : (names : List (ℤ × List ℕ)) → find (λ z. not (fits_32 z)) (map (λ n. n.0) names) ≡ None → bad_name_of (map (λ n. n.1) names) ≡ None → IsTrue (list_all (λ n. fits_32 n.0 && nat_lt (length n.1) (2 ^ 16)) names)
names_spelled names e f =
    let fit = all_of_map (λ z. not (fits_32 z) ≡ false) (λ (n : ℤ × List ℕ). n.0) names (find_none (λ z. not (fits_32 z)) (map (λ n. n.0) names) e) in
    let short = all_of_map IsShort (λ (n : ℤ × List ℕ). n.1) names (short_names (map (λ n. n.1) names) f) in
    all_pass (λ n. fits_32 n.0 && nat_lt (length n.1) (2 ^ 16)) (λ n. (not (fits_32 n.0) ≡ false) × IsShort n.1) (λ n h. and_from _ _ (not-false (fits_32 n.0) h.0) (lt-ltb (length n.1) (2 ^ 16) h.1)) names
    (all_both (λ n. not (fits_32 n.0) ≡ false) (λ n. IsShort n.1) (λ n. (not (fits_32 n.0) ≡ false) × IsShort n.1) names (λ n a b. (a, b)) fit short)

-- no enum has more than 256 names
abbrev IsSmall : ℕ → Type 0
IsSmall n = n ≤ 256

mutual
  kind_spelled : (depth : ℕ) (k : Kind) → nesting k ≤ depth → number_fault_in k ≡ None → bad_name_in k ≡ None → AllByRecursion IsSmall (enum_sizes k) → IsTrue (kind_fits depth k)
  kind_spelled depth (plain r) d n b s = refl
  kind_spelled depth (enumeration names) d n b s = and_from _ _ (lt-ltb (length names) (2 ^ 16) (omega (arith, s.0))) (names_spelled names (or_left (find (λ z. not (fits_32 z)) (map (λ n. n.0) names)) (not_rising (map (λ n. n.0) names)) n) b)
  kind_spelled depth (structured ks) d n b s =
      let numbers = or_left (numbers_fault 0 (field_numbers ks)) (number_fault_within ks) n in
      and_from _ _ (and_from _ _ (lt-ltb 0 depth (omega (arith, d))) (lt-ltb (length (field_numbers ks)) (2 ^ 16) (omega (arith, few_numbers 0 (field_numbers ks) (omega arith) numbers))))
      (kinds_spelled (depth - 1) ks 0 (omega (arith, d)) numbers (or_right (numbers_fault 0 (field_numbers ks)) (number_fault_within ks) n) (short_names (field_names ks) (or_left (bad_name_of (field_names ks)) (bad_name_within ks) b))
      (or_right (bad_name_of (field_names ks)) (bad_name_within ks) b) s)

  kinds_spelled : (depth : ℕ) (ks : FieldKinds) (low : ℕ) → nestings ks ≤ depth → numbers_fault low (field_numbers ks) ≡ None → number_fault_within ks ≡ None → AllByRecursion IsShort (field_names ks) → bad_name_within ks ≡ None → AllByRecursion IsSmall (enum_sizes_within ks)
      → IsTrue (kinds_fit depth ks)
  kinds_spelled depth no_kinds low d n i a b s = refl
  kinds_spelled depth (field_kind n name k ks) low d e i a b s =
      let number = number_tests low n (or_left (number_fault low n) (numbers_fault n (field_numbers ks)) e) in
      let here = kind_spelled depth k (omega (arith, d)) (or_left (number_fault_in k) (number_fault_within ks) i) (or_left (bad_name_in k) (bad_name_within ks) b) (all_front IsSmall (enum_sizes k) (enum_sizes_within ks) s) in
      let others = kinds_spelled depth ks n (omega (arith, d)) (or_right (number_fault low n) (numbers_fault n (field_numbers ks)) e) (or_right (number_fault_in k) (number_fault_within ks) i) a.1 (or_right (bad_name_in k) (bad_name_within ks) b) (all_rest IsSmall (enum_sizes k) (enum_sizes_within ks) s) in
      and_from _ _ (and_from _ _ (and_from _ _ (lt-ltb n (2 ^ 16) number.0) (lt-ltb (length name) (2 ^ 16) a.0)) here) others

-- ---- columns

-- what the tests of a new version say of a column's numbers, of its names, of its kind and of its default
abbrev IsNumbered : Column → Type 0
IsNumbered c = (c.number < 2 ^ 16) × (number_fault_in c.kind ≡ None)

abbrev name_fault : Column → Option (List ℕ)
name_fault c = option_or (bad_name_of (c.name ∷ [])) (bad_name_in c.kind)

abbrev IsNamed : Column → Type 0
IsNamed c = name_fault c ≡ None

abbrev IsLow : Column → Type 0
IsLow c = nesting c.kind ≤ 4

abbrev HasFewNames : Column → Type 0
HasFewNames c = AllByRecursion IsSmall (enum_sizes c.kind)

abbrev is_default : Column → Bool
is_default c = has_shape (unwrap_or c.fallback null_value) c.kind && is_log_value (unwrap_or c.fallback null_value)

record IsFine (c : Column) : Type 0 where
  numbered : IsNumbered c
  named : IsNamed c
  low : IsLow c
  few : HasFewNames c
  default : IsTrue (is_default c)

default_spelled : (o : Option Value) → IsTrue (is_log_value (unwrap_or o null_value)) → OptionalLawful log_value.Lawful o
unfolding log_value value
default_spelled None h = tt
default_spelled (Some v) h = h

column_spelled : (c : Column) → IsFine c → column.Lawful c
unfolding column u16 bytes16 kind
column_spelled c f =
    let name = short_names (c.name ∷ []) (or_left (bad_name_of (c.name ∷ [])) (bad_name_in c.kind) f.named) in
    let kind_names = or_right (bad_name_of (c.name ∷ [])) (bad_name_in c.kind) f.named in
    let default = and_parts (has_shape (unwrap_or c.fallback null_value) c.kind) (is_log_value (unwrap_or c.fallback null_value)) f.default in
    (f.numbered.0, (name.0, (kind_spelled 4 c.kind f.low f.numbered.1 kind_names f.few, default_spelled c.fallback default.1)))

-- numbers of columns rise below 2^16
few_columns : (low : ℕ) (cs : List Column) → low < 2 ^ 16 → column_number_fault low cs ≡ None → (length cs + low < 2 ^ 16) × AllByRecursion IsNumbered cs
few_columns low [] l e = (omega (arith, l), tt)
few_columns low (c ∷ cs) l e =
    let a = all_none (number_fault low c.number ∷ number_fault_in c.kind ∷ column_number_fault c.number cs ∷ []) e in
    let t = number_tests low c.number a.0 in
    let r = few_columns c.number cs t.0 a.1.1.0 in
    (omega (arith, t.1, r.0), ((t.0, a.1.0), r.1))

-- ---- versions that are added

-- the catalogue with the version has a table of its number
found_by : (v : SchemaVersion) (t : Table) (ts : Catalogue) (b d : Bool) → (t.number == v.number) ≡ b → (u : Table) × (table_numbered (with_version ts v) v.number ≡ Some u)
    → (u : Table) × (table_numbered (cond b (record t { versions = t.versions ++ live_version v.columns ∷ [] } ∷ ts) (cond d (new_table v ∷ t ∷ ts) (t ∷ with_version ts v))) v.number ≡ Some u)
found_by v t ts true d e ih = let u : Table = record t { versions = t.versions ++ live_version v.columns ∷ [] } in (u, ap (λ (c : Bool). cond c (Some u) (table_numbered ts v.number)) e)
found_by v t ts false true e ih = (new_table v, ap (λ (c : Bool). cond c (Some (new_table v)) (table_numbered (t ∷ ts) v.number)) (eq-eqb v.number v.number refl))
found_by v t ts false false e ih = (ih.0, ap (λ (c : Bool). cond c (Some t) (table_numbered (with_version ts v) v.number)) e ∙ ih.1)

found : (v : SchemaVersion) (cat : Catalogue) → (u : Table) × (table_numbered (with_version cat v) v.number ≡ Some u)
found v [] = (new_table v, ap (λ (c : Bool). cond c (Some (new_table v)) None) (eq-eqb v.number v.number refl))
found v (t ∷ ts) = found_by v t ts (t.number == v.number) (nat_lt v.number t.number) refl (found v ts)

-- what the limits say
record IsWithin (cat : Catalogue) (v : SchemaVersion) : Type 0 where
  tables : length (with_version cat v) ≤ 64
  versions : (t : Table) → table_numbered (with_version cat v) v.number ≡ Some t → length t.versions ≤ 256
  enums : AllByRecursion HasFewNames v.columns

abbrev limits_of : Catalogue → SchemaVersion → Table → List (Option ℕ)
limits_of cat v t = over 64 (length cat) ∷ over 256 (length t.versions) ∷ over 256 (length (column_numbers t)) ∷ over 1024 (leaf_count t) ∷ find (nat_lt 256) (flat_map (λ c. enum_sizes c.kind) v.columns) ∷ []

within : (cat : Catalogue) (v : SchemaVersion) → over_limit (with_version cat v) v ≡ None → IsWithin cat v
within cat v e =
    let more = with_version cat v in
    let limits = λ (t : Table) (f : table_numbered more v.number ≡ Some t). all_none (limits_of more v t) (sym (ap (option_and_then (λ t. first_of (limits_of more v t))) f) ∙ e) in
    let u = found v cat in
    let l = limits u.0 u.1 in
    record {
      tables = ltb-false 64 (length more) (when_none (nat_lt 64 (length more)) (length more) l.0);
      versions = λ t f. ltb-false 256 (length t.versions) (when_none (nat_lt 256 (length t.versions)) (length t.versions) (limits t f).1.0);
      enums = all_flat IsSmall (λ (c : Column). enum_sizes c.kind) v.columns (all_map (λ n. nat_lt 256 n ≡ false) IsSmall (flat_map (λ c. enum_sizes c.kind) v.columns) (λ n h. ltb-false 256 n h) (find_none (nat_lt 256) (flat_map (λ c. enum_sizes c.kind) v.columns) l.1.1.1.1.0));
    }

-- what can be spelled of a version that is added
record IsSpelled (cat : Catalogue) (v : SchemaVersion) : Type 0 where
  number : v.number < 2 ^ 32
  name : length v.table < 2 ^ 16
  few_keys : length v.key < 2 ^ 8
  key : AllByRecursion key_column.Lawful v.key
  version : version.Lawful (live_version v.columns)
  within : IsWithin cat v

key_spelled : (ks : List KeyColumn) → AllByRecursion (λ k. IsShort k.name) ks → AllByRecursion key_column.Lawful ks
unfolding key_column bytes16 u16 key_kind
key_spelled ks h = all_map (λ k. IsShort k.name) (λ k. IsShort k.name × Unit {0}) ks (λ k s. (s, tt)) h

version_spelled : (cs : List Column) → length cs < 2 ^ 16 → AllByRecursion column.Lawful cs → version.Lawful (live_version cs)
unfolding version flag u16
version_spelled cs few h = (tt, (few, h))

fine_columns : (cat : Catalogue) (v : SchemaVersion) → AllByRecursion (λ o. o ≡ None) (faults_of cat v) → IsWithin cat v → (length v.columns < 2 ^ 16) × AllByRecursion IsFine v.columns
fine_columns cat v a w =
    let cs = v.columns in
    let numbers = all_none (number_fault 0 v.number ∷ when (v.version == 0) (pos 0) ∷ column_number_fault 0 cs ∷ []) (none_mapped bad_number (any_number_fault v) a.0) in
    let numbered = few_columns 0 cs (omega arith) numbers.1.1.0 in
    let names = all_none (bad_name_of (v.table ∷ map (λ k. k.name) v.key) ∷ first_of (map name_fault cs) ∷ []) (none_mapped bad_name (any_bad_name v) a.1.0) in
    let named = all_of_map (λ o. o ≡ None) name_fault cs (all_none (map name_fault cs) names.1.0) in
    let low = all_map (λ c. nat_lt 4 (nesting c.kind) ≡ false) IsLow cs (λ c h. ltb-false 4 (nesting c.kind) h) (any_none (λ c. nat_lt 4 (nesting c.kind)) cs (when_none (is_too_deep v) too_deep a.1.1.1.0)) in
    let defaults = all_map (λ c. not (is_default c) ≡ false) (λ c. IsTrue (is_default c)) cs (λ c h. not-false (is_default c) h)
    (find_none (λ c. not (is_default c)) cs (none_mapped (λ (c : Column). c.number) _ (none_mapped bad_default (bad_default_of v) a.1.1.1.1.0))) in
    let kinds = all_both IsLow HasFewNames (λ c. IsLow c × HasFewNames c) cs (λ c l f. (l, f)) low w.enums in
    let said = all_both IsNumbered IsNamed (λ c. IsNumbered c × IsNamed c) cs (λ c n m. (n, m)) numbered.1 named in
    let both = all_both (λ c. IsNumbered c × IsNamed c) (λ c. IsLow c × HasFewNames c) (λ c. (IsNumbered c × IsNamed c) × (IsLow c × HasFewNames c)) cs (λ c s k. (s, k)) said kinds in
    (omega (arith, numbered.0), all_both (λ c. (IsNumbered c × IsNamed c) × (IsLow c × HasFewNames c)) (λ c. IsTrue (is_default c)) IsFine cs (λ c b d. record { numbered = b.0.0; named = b.0.1; low = b.1.0; few = b.1.1; default = d }) both defaults)

few_keys_of : (cat : Catalogue) (v : SchemaVersion) → is_key_changed cat v ≡ false → length v.key < 2 ^ 8
few_keys_of cat v e =
    let changed = option_map_or (λ t. not (same_key_columns t.key v.key)) (table_numbered cat v.number) false in
    let p = or_parts ((length v.key == 0) || nat_lt 8 (length v.key)) changed e in
    omega (arith, ltb-false 8 (length v.key) (or_parts (length v.key == 0) (nat_lt 8 (length v.key)) p.0).1)

spelled : (cat : Catalogue) (v : SchemaVersion) → schema_fault cat v ≡ None → IsSpelled cat v
spelled cat v e =
    let a = all_faults cat v e in
    let w = within cat v (none_mapped too_many (over_limit (with_version cat v) v) a.1.1.1.1.1.1.1.1.1.1.1.0) in
    let number = number_tests 0 v.number (or_left (number_fault 0 v.number) _ (none_mapped bad_number (any_number_fault v) a.0)) in
    let names = short_names (v.table ∷ map (λ k. k.name) v.key) (or_left (bad_name_of (v.table ∷ map (λ k. k.name) v.key)) _ (none_mapped bad_name (any_bad_name v) a.1.0)) in
    let columns = fine_columns cat v a w in
    record {
      number = omega (arith, number.0);
      name = names.0;
      few_keys = few_keys_of cat v (when_none (is_key_changed cat v) key_changed a.1.1.1.1.1.1.1.0);
      key = key_spelled v.key (all_of_map IsShort (λ (k : KeyColumn). k.name) v.key names.1);
      version = version_spelled v.columns columns.0 (all_map IsFine column.Lawful v.columns column_spelled columns.1);
      within = w;
    }

-- ---- tables

new_spelled : (cat : Catalogue) (v : SchemaVersion) → IsSpelled cat v → table.Lawful (new_table v)
unfolding table u32 bytes16 u16 byte
new_spelled cat v s = (s.number, (s.name, ((s.few_keys, s.key), (omega arith, (s.version, tt)))))

more_spelled : (t : Table) (r : Registered) → length (t.versions ++ r ∷ []) ≤ 256 → version.Lawful r → table.Lawful t → table.Lawful (record t { versions = t.versions ++ r ∷ [] })
unfolding table u32 bytes16 u16 byte
more_spelled t r few h s = (s.0, (s.1.0, (s.1.1.0, (omega (arith, few), all_append version.Lawful t.versions (r ∷ []) s.1.1.1.1 (h, tt)))))

abbrev HasFewVersions : SchemaVersion → Catalogue → Type 0
HasFewVersions v cat = (t : Table) → table_numbered cat v.number ≡ Some t → length t.versions ≤ 256

added_by : (cat : Catalogue) (v : SchemaVersion) (t : Table) (ts : Catalogue) (b d : Bool) → (t.number == v.number) ≡ b → IsSpelled cat v → AllByRecursion table.Lawful (t ∷ ts) → (HasFewVersions v (with_version ts v) → AllByRecursion table.Lawful (with_version ts v))
    → HasFewVersions v (cond b (record t { versions = t.versions ++ live_version v.columns ∷ [] } ∷ ts) (cond d (new_table v ∷ t ∷ ts) (t ∷ with_version ts v)))
    → AllByRecursion table.Lawful (cond b (record t { versions = t.versions ++ live_version v.columns ∷ [] } ∷ ts) (cond d (new_table v ∷ t ∷ ts) (t ∷ with_version ts v)))
added_by cat v t ts true d e s a ih few =
    let u : Table = record t { versions = t.versions ++ live_version v.columns ∷ [] } in
    (more_spelled t (live_version v.columns) (few u (ap (λ (c : Bool). cond c (Some u) (table_numbered ts v.number)) e)) s.version a.0, a.1)
added_by cat v t ts false true e s a ih few = (new_spelled cat v s, a)
added_by cat v t ts false false e s a ih few = (a.0, ih (λ u f. few u (ap (λ (c : Bool). cond c (Some t) (table_numbered (with_version ts v) v.number)) e ∙ f)))

added_spelled : (cat : Catalogue) (v : SchemaVersion) (ts : Catalogue) → IsSpelled cat v → AllByRecursion table.Lawful ts → HasFewVersions v (with_version ts v) → AllByRecursion table.Lawful (with_version ts v)
added_spelled cat v [] s a few = (new_spelled cat v s, tt)
added_spelled cat v (t ∷ ts) s a few = added_by cat v t ts (t.number == v.number) (nat_lt v.number t.number) refl s a (added_spelled cat v ts s a.1) few

-- a version that is retired keeps its columns
pub retired_length : (rs : List Registered) (k : ℕ) → length (change_at retired_version k rs) ≡ length rs
retired_length [] k = refl
retired_length (r ∷ rs) zero = refl
retired_length (r ∷ rs) (suc k) = ap suc (retired_length rs k)

retired_versions : (rs : List Registered) (k : ℕ) → AllByRecursion version.Lawful rs → AllByRecursion version.Lawful (change_at retired_version k rs)
unfolding version flag u16
retired_versions [] k a = tt
retired_versions (r ∷ rs) zero a = a
retired_versions (r ∷ rs) (suc k) a = (a.0, retired_versions rs k a.1)

retired_table : (b : Bool) (v : ℕ) (t : Table) → table.Lawful t → table.Lawful (cond b (with_retired v t) t)
unfolding table u32 bytes16 u16 byte
retired_table true v t s = (s.0, (s.1.0, (s.1.1.0, (omega (arith, retired_length t.versions (v - 1), s.1.1.1.0), retired_versions t.versions (v - 1) s.1.1.1.1))))
retired_table false v t s = s

retired_spelled : (number v : ℕ) (cat : Catalogue) → AllByRecursion table.Lawful cat → AllByRecursion table.Lawful (without_version cat number v)
retired_spelled number v [] a = tt
retired_spelled number v (t ∷ ts) a = (retired_table (t.number == number) v t a.0, retired_spelled number v ts a.1)

-- ---- catalogues

few_and_spelled : (cat : Catalogue) → IsCatalogue cat → (length cat ≤ 64) × AllByRecursion table.Lawful cat
few_and_spelled _ nothing_yet = (omega arith, tt)
few_and_spelled _ (after_adding cat v is e) =
    let s = spelled cat v e in
    let w = s.within in
    (w.tables, added_spelled cat v cat s (few_and_spelled cat is).1 w.versions)
few_and_spelled _ (after_retiring cat number v is e) =
    let h = few_and_spelled cat is in
    (omega (arith, h.0, length-map cat (λ t. cond (t.number == number) (with_retired v t) t)), retired_spelled number v cat h.1)

pub catalogue_spelled : (cat : Catalogue) → IsCatalogue cat → catalogue.Lawful cat
unfolding catalogue u32
catalogue_spelled cat is = let h = few_and_spelled cat is in (omega (arith, h.0), h.1)
