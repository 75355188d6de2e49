-- What the tests of versions give for each table of a lawful catalogue: numbers that rise, kinds that nest at most 4 deep and do not clash.
use Rattle.std.proofs.Common.{Bool, List, [], ap, append-nil, cond, eqb-true, false, length, ltb-false, refl, subst, suc, sym, true, zero, ℕ, ◌++◌, ◌+◌, ◌∷◌, ◌≡◌, ◌≤◌}
use Rattle.std.specs.Prelude.{IsTrue, None, Option, Some, map, nat_lt, not, option_map, pos, ⊤, ◌&&◌, ◌-◌, ◌==◌}
use Rattle.std.specs.List.{AllByRecursion, cons_option, list_any}
use Rattle.std.specs.Option.{option_map_or, option_or}
use Rattle.std.proofs.lemmas.Bool.{and_from, and_parts, false≢true, not-false}
use Rattle.lt_terms.specs.Kind.{FieldKinds, Kind, enumeration, field_kind, nesting, no_kinds, plain, structured}
use Rattle.lt_terms.specs.Value.{is_number, rises_above}
use Rattle.lt_tables.specs.Schema.{Catalogue, Column, IsCatalogue, Registered, SchemaFault, SchemaVersion, Table, after_adding, after_retiring, any_bad_name, any_number_fault, any_repeated, bad_default, bad_default_of, bad_name, bad_number, change_at, changed_kind, clash, column_number_fault, column_numbered, column_reused, default_again, default_given, duplicate_name, field_numbers, first_of, is_key_changed, is_mismatch, is_too_deep, key_changed, kind_changed, kinds_given, live_version, new_table, nothing_yet, number_fault, number_fault_in, number_fault_within, numbers_fault, over_limit, retired_version, reused_column, schema_fault, table_mismatch, table_numbered, too_deep, too_many, version_not_next, versions_of, when, with_retired, with_version, without_version}
use Rattle.lt_codecs.proofs.ListFacts.{all_append, all_both, all_map, any_none, find_none, none_mapped, or_left, or_right}
use Rattle.lt_lemmas.proofs.ConversionLemmas.{are_rising, is_rising}
use Rattle.lt_lemmas.proofs.StoreKinds.{is_numbered, kind_numbered, number_given}
use Rattle.lt_lemmas.proofs.ListFacts.{filter_map-append, find_all, when_none}
pub use Rattle.lt_lemmas.proofs.ListFacts.{all_none}

-- ---- versions that are added

abbrev pub faults_of : Catalogue → SchemaVersion → List (Option SchemaFault)
faults_of cat v =
    option_map bad_number (any_number_fault v)
    ∷ option_map bad_name (any_bad_name v)
    ∷ option_map duplicate_name (any_repeated v)
    ∷ when (is_too_deep v) too_deep
    ∷ option_map bad_default (bad_default_of v)
    ∷ when (is_mismatch cat v) (table_mismatch v.number)
    ∷ when (not (v.version == length (versions_of cat v.number) + 1)) (version_not_next (length (versions_of cat v.number) + 1))
    ∷ when (is_key_changed cat v) key_changed
    ∷ option_map column_reused (reused_column (versions_of cat v.number) v.columns)
    ∷ option_map kind_changed (changed_kind (versions_of cat v.number) v.columns)
    ∷ option_map default_given (default_again (versions_of cat v.number) v.columns)
    ∷ option_map too_many (over_limit (with_version cat v) v)
    ∷ []

pub all_faults : (cat : Catalogue) (v : SchemaVersion) → schema_fault cat v ≡ None → AllByRecursion (λ o. o ≡ None) (faults_of cat v)
unfolding schema_fault
all_faults cat v e = all_none (faults_of cat v) e

-- ---- the kinds that the versions give a column

-- field numbers rise, and structs nest at most 4 deep
abbrev pub IsFineKind : Kind → Type 0
IsFineKind k = IsTrue (is_rising k) × (nesting k ≤ 4)

-- none clashes with an older one
abbrev pub AreAlike : List Kind → Type 0
AreAlike [] = ⊤
AreAlike (k ∷ ks) = AllByRecursion (λ l. clash k l ≡ false) ks × AreAlike ks

-- ---- the columns of a version

pub record FineColumns (r : Registered) : Type 0 where
  pub rise : IsTrue (rises_above 0 (map (λ c. c.number) r.columns))
  pub kinds : AllByRecursion (λ c. IsFineKind c.kind) r.columns
  pub numbers : AllByRecursion (λ c. IsTrue (is_number c.number) × IsTrue (is_numbered c.kind)) r.columns

pub record IsFineTable (t : Table) : Type 0 where
  pub number : IsTrue (is_number t.number)
  pub versions : AllByRecursion FineColumns t.versions
  pub alike : (n : ℕ) → AreAlike (kinds_given t.versions n)

-- ---- what the tests of a new version give

pub first_two : {A : Type 0} (o p : Option A) (os : List (Option A)) → first_of (o ∷ p ∷ os) ≡ None → (o ≡ None) × (p ≡ None) × (first_of os ≡ None)
first_two o p os e = let f = or_right o (option_or p (first_of os)) e in (or_left o _ e, or_left p _ f, or_right p (first_of os) f)

number_none : (before n : ℕ) → number_fault before n ≡ None → IsTrue (nat_lt before n)
number_none before n e = (and_parts (is_number n) (nat_lt before n) (not-false (is_number n && nat_lt before n) (when_none _ _ e))).1

mutual
  pub kind_rises : (k : Kind) → number_fault_in k ≡ None → IsTrue (is_rising k)
  kind_rises (plain r) e = refl
  kind_rises (enumeration names) e = refl
  kind_rises (structured ks) e = kinds_rise ks 0 (or_left (numbers_fault 0 (field_numbers ks)) (number_fault_within ks) e) (or_right (numbers_fault 0 (field_numbers ks)) (number_fault_within ks) e)

  kinds_rise : (ks : FieldKinds) (low : ℕ) → numbers_fault low (field_numbers ks) ≡ None → number_fault_within ks ≡ None → IsTrue (are_rising low ks)
  kinds_rise no_kinds low e d = refl
  kinds_rise (field_kind n name k ks) low e d =
      and_from _ _ (and_from _ _ (number_none low n (or_left (number_fault low n) (numbers_fault n (field_numbers ks)) e)) (kind_rises k (or_left (number_fault_in k) (number_fault_within ks) d)))
      (kinds_rise ks n (or_right (number_fault low n) (numbers_fault n (field_numbers ks)) e) (or_right (number_fault_in k) (number_fault_within ks) d))

columns_numbered : (low : ℕ) (cs : List Column) → column_number_fault low cs ≡ None → AllByRecursion (λ c. IsTrue (is_number c.number) × IsTrue (is_numbered c.kind)) cs
columns_numbered low [] e = tt
columns_numbered low (c ∷ cs) e =
    let p = first_two (number_fault low c.number) (number_fault_in c.kind) (column_number_fault c.number cs ∷ []) e in
    (((and_parts (is_number c.number) (nat_lt low c.number) (number_given low c.number p.0)).0, kind_numbered c.kind p.1), columns_numbered c.number cs (or_left (column_number_fault c.number cs) None p.2))

columns_rise : (low : ℕ) (cs : List Column) → column_number_fault low cs ≡ None → IsTrue (rises_above low (map (λ c. c.number) cs)) × AllByRecursion (λ c. IsTrue (is_rising c.kind)) cs
columns_rise low [] e = (refl, tt)
columns_rise low (c ∷ cs) e =
    let p = first_two (number_fault low c.number) (number_fault_in c.kind) (column_number_fault c.number cs ∷ []) e in
    let r = columns_rise c.number cs (or_left (column_number_fault c.number cs) None p.2) in
    (and_from _ _ (number_none low c.number p.0) r.0, (kind_rises c.kind p.1, r.1))

nests_low : (cs : List Column) → list_any (λ c. nat_lt 4 (nesting c.kind)) cs ≡ false → AllByRecursion (λ c. nesting c.kind ≤ 4) cs
nests_low cs e = all_map (λ c. nat_lt 4 (nesting c.kind) ≡ false) (λ c. nesting c.kind ≤ 4) cs (λ c h. ltb-false 4 (nesting c.kind) h) (any_none (λ c. nat_lt 4 (nesting c.kind)) cs e)

-- none of the columns' kinds clashes with an older one of its column
abbrev pub Follows : List Registered → List Column → Type 0
Follows versions columns = AllByRecursion (λ c. AllByRecursion (λ k. clash k c.kind ≡ false) (kinds_given versions c.number)) columns

follows : (versions : List Registered) (columns : List Column) → changed_kind versions columns ≡ None → Follows versions columns
follows versions columns e = all_map (λ c. list_any (λ k. clash k c.kind) (kinds_given versions c.number) ≡ false) (λ c. AllByRecursion (λ k. clash k c.kind ≡ false) (kinds_given versions c.number)) columns
    (λ c h. any_none (λ k. clash k c.kind) (kinds_given versions c.number) h)
    (find_none (λ c. list_any (λ k. clash k c.kind) (kinds_given versions c.number)) columns (none_mapped (λ (c : Column). c.number) _ e))

pub record Accepted (cat : Catalogue) (v : SchemaVersion) : Type 0 where
  pub number : IsTrue (is_number v.number)
  pub fine : FineColumns (live_version v.columns)
  pub follows : Follows (versions_of cat v.number) v.columns
  pub fresh : reused_column (versions_of cat v.number) v.columns ≡ None

pub accepted : (cat : Catalogue) (v : SchemaVersion) → schema_fault cat v ≡ None → Accepted cat v
accepted cat v e =
    let a = all_faults cat v e in
    let numbers = first_two (number_fault 0 v.number) (when (v.version == 0) (pos 0)) (column_number_fault 0 v.columns ∷ []) (none_mapped bad_number (any_number_fault v) a.0) in
    let rise = columns_rise 0 v.columns (or_left (column_number_fault 0 v.columns) None numbers.2) in
    let numbered = columns_numbered 0 v.columns (or_left (column_number_fault 0 v.columns) None numbers.2) in
    let flat = nests_low v.columns (when_none (is_too_deep v) too_deep a.1.1.1.0) in record {
      number = (and_parts (is_number v.number) (nat_lt 0 v.number) (not-false (is_number v.number && nat_lt 0 v.number) (when_none _ _ numbers.0))).0;
      fine = record { rise = rise.0; kinds = all_both (λ (c : Column). IsTrue (is_rising c.kind)) (λ c. nesting c.kind ≤ 4) (λ c. IsFineKind c.kind) v.columns (λ c r n. (r, n)) rise.1 flat; numbers = numbered };
      fresh = none_mapped column_reused (reused_column (versions_of cat v.number) v.columns) a.1.1.1.1.1.1.1.1.0;
      follows = follows (versions_of cat v.number) v.columns (none_mapped kind_changed (changed_kind (versions_of cat v.number) v.columns) a.1.1.1.1.1.1.1.1.1.0);
    }

-- ---- a table after a version more

alike_push : (ks : List Kind) (k : Kind) → AreAlike ks → AllByRecursion (λ l. clash l k ≡ false) ks → AreAlike (ks ++ k ∷ [])
alike_push [] k a h = (tt, tt)
alike_push (l ∷ ks) k a h = (all_append (λ m. clash l m ≡ false) ks (k ∷ []) a.0 (h.0, tt), alike_push ks k a.1 h.1)

alike_by : (ks : List Kind) (o : Option Column) → AreAlike ks → ((c : Column) → o ≡ Some c → AllByRecursion (λ l. clash l c.kind ≡ false) ks) → AreAlike (ks ++ cons_option (option_map (λ c. c.kind) o) [])
alike_by ks None a f = subst AreAlike (sym (append-nil ks)) a
alike_by ks (Some c) a f = alike_push ks c.kind a (f c refl)

alike_more : (versions : List Registered) (columns : List Column) → ((n : ℕ) → AreAlike (kinds_given versions n)) → Follows versions columns → (n : ℕ) → AreAlike (kinds_given (versions ++ live_version columns ∷ []) n)
alike_more versions columns a f n = subst AreAlike (sym (filter_map-append (λ r. option_map (λ c. c.kind) (column_numbered r.columns n)) versions (live_version columns ∷ [])))
    (alike_by (kinds_given versions n) (column_numbered columns n) (a n) (λ c e.
    let r = find_all (λ c. AllByRecursion (λ k. clash k c.kind ≡ false) (kinds_given versions c.number)) (λ c. c.number == n) columns c f e in
    subst (λ (m : ℕ). AllByRecursion (λ k. clash k c.kind ≡ false) (kinds_given versions m)) (eqb-true c.number n r.1) r.0))

table_more : (t : Table) (columns : List Column) → IsFineTable t → FineColumns (live_version columns) → Follows t.versions columns → IsFineTable (record t { versions = t.versions ++ live_version columns ∷ [] })
table_more t columns f g h = record { number = f.number; versions = all_append FineColumns t.versions (live_version columns ∷ []) f.versions (g, tt); alike = alike_more t.versions columns f.alike h }

table_new : (v : SchemaVersion) → IsTrue (is_number v.number) → FineColumns (live_version v.columns) → IsFineTable (new_table v)
table_new v n g = record { number = n; versions = (g, tt); alike = λ n. alike_by [] (column_numbered v.columns n) tt (λ c e. tt) }

abbrev AreFineTables : Catalogue → Type 0
AreFineTables cat = AllByRecursion IsFineTable cat

versions_by : (b : Bool) (t : Table) (o : Option Table) (columns : List Column) → Follows (option_map_or (λ t. t.versions) (cond b (Some t) o) []) columns → (b ≡ true → Follows t.versions columns) × (b ≡ false → Follows (option_map_or (λ t. t.versions) o []) columns)
versions_by true t o columns f = ((λ e. f), (λ e. absurd (false≢true (sym e))))
versions_by false t o columns f = ((λ e. absurd (false≢true e)), (λ e. f))

tables_more_by : (v : SchemaVersion) (t : Table) (ts : Catalogue) (b d : Bool) → IsTrue (is_number v.number) → FineColumns (live_version v.columns) → (b ≡ true → Follows t.versions v.columns) → (b ≡ false → AreFineTables (with_version ts v)) → AreFineTables (t ∷ ts)
    → AreFineTables (cond b (record t { versions = t.versions ++ live_version v.columns ∷ [] } ∷ ts) (cond d (new_table v ∷ t ∷ ts) (t ∷ with_version ts v)))
tables_more_by v t ts true d n g f h a = (table_more t v.columns a.0 g (f refl), a.1)
tables_more_by v t ts false true n g f h a = (table_new v n g, a)
tables_more_by v t ts false false n g f h a = (a.0, h refl)

tables_more : (v : SchemaVersion) (cat : Catalogue) → IsTrue (is_number v.number) → FineColumns (live_version v.columns) → Follows (versions_of cat v.number) v.columns → AreFineTables cat → AreFineTables (with_version cat v)
tables_more v [] n g f a = (table_new v n g, tt)
tables_more v (t ∷ ts) n g f a =
    let r = versions_by (t.number == v.number) t (table_numbered ts v.number) v.columns f in
    tables_more_by v t ts (t.number == v.number) (nat_lt v.number t.number) n g r.0 (λ e. tables_more v ts n g (r.1 e) a.1) a

-- ---- and after a version was retired

pub same_columns : (n : ℕ) (rs : List Registered) (k : ℕ) → kinds_given (change_at retired_version k rs) n ≡ kinds_given rs n
same_columns n [] k = refl
same_columns n (r ∷ rs) zero = refl
same_columns n (r ∷ rs) (suc k) = ap (cons_option (option_map (λ c. c.kind) (column_numbered r.columns n))) (same_columns n rs k)

retired_fine : (rs : List Registered) (k : ℕ) → AllByRecursion FineColumns rs → AllByRecursion FineColumns (change_at retired_version k rs)
retired_fine [] k a = tt
retired_fine (r ∷ rs) zero a = (record { rise = a.0.rise; kinds = a.0.kinds; numbers = a.0.numbers }, a.1)
retired_fine (r ∷ rs) (suc k) a = (a.0, retired_fine rs k a.1)

table_retired : (b : Bool) (v : ℕ) (t : Table) → IsFineTable t → IsFineTable (cond b (with_retired v t) t)
table_retired true v t f = record { number = f.number; versions = retired_fine t.versions (v - 1) f.versions; alike = λ n. subst AreAlike (sym (same_columns n t.versions (v - 1))) (f.alike n) }
table_retired false v t f = f

tables_retired : (number v : ℕ) (cat : Catalogue) → AreFineTables cat → AreFineTables (without_version cat number v)
tables_retired number v [] a = tt
tables_retired number v (t ∷ ts) a = (table_retired (t.number == number) v t a.0, tables_retired number v ts a.1)

-- each table of a lawful catalogue is fine
pub fine_tables : (cat : Catalogue) → IsCatalogue cat → AllByRecursion IsFineTable cat
fine_tables _ nothing_yet = tt
fine_tables _ (after_adding cat v is e) = let a = accepted cat v e in tables_more v cat a.number a.fine a.follows (fine_tables cat is)
fine_tables _ (after_retiring cat number v is e) = tables_retired number v cat (fine_tables cat is)

pub fine_table : (cat : Catalogue) (n : ℕ) (t : Table) → IsCatalogue cat → table_numbered cat n ≡ Some t → IsFineTable t
fine_table cat n t is e = (find_all IsFineTable (λ t. t.number == n) cat t (fine_tables cat is) e).0
