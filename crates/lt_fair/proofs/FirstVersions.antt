-- Each table of a lawful catalogue has a first version, so a table is known exactly where that is.
use Rattle.std.proofs.Common.{Bool, List, None, Option, Some, [], ap, cond, false, is_some, refl, suc, true, zero, ℕ, ◌++◌, ◌∙◌, ◌∷◌, ◌≡◌}
use Rattle.std.specs.Prelude.{is_none, nat_lt, not, option_and_then, option_map, slice_get, ◌==◌, ◌-◌}
use Rattle.std.specs.List.{AllByRecursion}
use Rattle.std.specs.Borrow.{Bor}
use Rattle.std.specs.Option.{option_copied, option_map_or, option_or}
use Rattle.lt_terms.specs.Log.{Change}
use Rattle.lt_tables.specs.Schema.{Catalogue, IsCatalogue, Registered, SchemaVersion, Table, after_adding, after_retiring, change_at, first_of, live_version, new_table, nothing_yet, registered, retired_version, schema_version, table_numbered, when, whole_version, with_retired, with_version, without_version}
use Rattle.lt_tables.specs.Fair.{Unfair, bad_shape, has_change_shape, unknown_table_number, unknown_version_number}
use Rattle.lt_lemmas.proofs.ListFacts.{find_all}
use Rattle.lt_fair.specs.Faults.{fits_version, shape_fault, version_fault}

-- ---- each table has a first version

abbrev HasFirst : Table → Type 0
HasFirst t = is_some (slice_get t.versions 0) ≡ true

first_added : (rs : List Registered) (r : Registered) → is_some (slice_get (rs ++ r ∷ []) 0) ≡ true
first_added [] r = refl
first_added (q ∷ rs) r = refl

firsts_added_by : (v : SchemaVersion) (t : Table) (ts : Catalogue) (b d : Bool) → AllByRecursion HasFirst (t ∷ ts) → AllByRecursion HasFirst (with_version ts v)
    → AllByRecursion HasFirst (cond b (record t { versions = t.versions ++ live_version v.columns ∷ [] } ∷ ts) (cond d (new_table v ∷ t ∷ ts) (t ∷ with_version ts v)))
firsts_added_by v t ts true d a ih = (first_added t.versions (live_version v.columns), a.1)
firsts_added_by v t ts false true a ih = (refl, a)
firsts_added_by v t ts false false a ih = (a.0, ih)

firsts_added : (v : SchemaVersion) (cat : Catalogue) → AllByRecursion HasFirst cat → AllByRecursion HasFirst (with_version cat v)
firsts_added v [] a = (refl, tt)
firsts_added v (t ∷ ts) a = firsts_added_by v t ts (t.number == v.number) (nat_lt v.number t.number) a (firsts_added v ts a.1)

first_changed : (k : ℕ) (rs : List Registered) → is_some (slice_get rs 0) ≡ true → is_some (slice_get (change_at retired_version k rs) 0) ≡ true
first_changed k [] h = h
first_changed zero (r ∷ rs) h = refl
first_changed (suc k) (r ∷ rs) h = refl

first_retired : (b : Bool) (v : ℕ) (t : Table) → HasFirst t → HasFirst (cond b (with_retired v t) t)
first_retired true v t h = first_changed (v - 1) t.versions h
first_retired false v t h = h

firsts_retired : (number v : ℕ) (cat : Catalogue) → AllByRecursion HasFirst cat → AllByRecursion HasFirst (without_version cat number v)
firsts_retired number v [] a = tt
firsts_retired number v (t ∷ ts) a = (first_retired (t.number == number) v t a.0, firsts_retired number v ts a.1)

firsts : (cat : Catalogue) → IsCatalogue cat → AllByRecursion HasFirst cat
firsts _ nothing_yet = tt
firsts _ (after_adding cat v is e) = firsts_added v cat (firsts cat is)
firsts _ (after_retiring cat number v is e) = firsts_retired number v cat (firsts cat is)

-- ---- what is unknown

abbrev version_in : Option Table → ℕ → Option SchemaVersion
version_in o v = option_and_then (λ t. option_map (whole_version t v) (registered t v)) o

mapped_none : (t : Table) (v : ℕ) (o : Option Registered) → option_map (whole_version t v) o ≡ None → is_none o ≡ true
mapped_none t v None e = refl
mapped_none t v (Some r) e = cc

version_by : (o : Option Table) (n v : ℕ) → is_some (version_in o 1) ≡ true → version_in o v ≡ None
    → first_of (when (is_none o) (unknown_table_number n) ∷ when (is_none (option_and_then (λ t. registered t v) o)) (unknown_version_number v) ∷ []) ≡ Some (unknown_version_number v)
version_by None n v h e = cc
version_by (Some t) n v h e = ap (λ b. option_or (when b (unknown_version_number v)) None) (mapped_none t v (registered t v) e)

-- the table is known, and the version is not
pub unknown_version : (cat : Catalogue) (n v : ℕ) → is_some (schema_version cat n 1) ≡ true → schema_version cat n v ≡ None → version_fault cat n v ≡ Some (unknown_version_number v)
unknown_version cat n v h e = version_by (table_numbered cat n) n v h e

mapped_some : (t : Table) (v : ℕ) (o : Option Registered) → is_some o ≡ true → is_some (option_map (whole_version t v) o) ≡ true
mapped_some t v None h = h
mapped_some t v (Some r) h = refl

table_by : (cat : Catalogue) (o : Option Table) (n v : ℕ) → table_numbered cat n ≡ o → IsCatalogue cat → is_some (version_in o 1) ≡ false
    → first_of (when (is_none o) (unknown_table_number n) ∷ when (is_none (option_and_then (λ t. registered t v) o)) (unknown_version_number v) ∷ []) ≡ Some (unknown_table_number n)
table_by cat None n v f is h = refl
table_by cat (Some t) n v f is h = let g = mapped_some t 1 (registered t 1) (find_all HasFirst (λ t. t.number == n) cat t (firsts cat is) f).0 in cc

pub is_some-copied : {A B : Type 0} (f : A → B) (o : Option (Bor A)) → is_some (option_map f (option_copied o)) ≡ is_some o
is_some-copied f None = refl
is_some-copied f (Some x) = refl

-- no first version is known, so the table is not
pub unknown_table : (cat : Catalogue) (n v : ℕ) → IsCatalogue cat → is_some (schema_version cat n 1) ≡ false → version_fault cat n v ≡ Some (unknown_table_number n)
unknown_table cat n v is h = table_by cat (table_numbered cat n) n v refl is h

-- ---- the shape of a change

shape_in : (t : Table) (c : Change) (o : Option Registered) (w : SchemaVersion) → option_map (whole_version t c.version) o ≡ Some w
    → first_of (when (is_none o) (unknown_version_number c.version) ∷ when (not (option_map_or (λ r. has_change_shape t r c) o false)) bad_shape ∷ []) ≡ when (not (fits_version w c)) bad_shape
shape_in t c None w e = cc
shape_in t c (Some r) w e = let d : whole_version t c.version r ≡ w = cc in ap (λ w. option_or (when (not (fits_version w c)) bad_shape) None) d ∙ or_none (when (not (fits_version w c)) bad_shape)
  where
    or_none : {A : Type 0} (o : Option A) → option_or o None ≡ o
    or_none None = refl
    or_none (Some a) = refl

shape_by : (o : Option Table) (c : Change) (w : SchemaVersion) → version_in o c.version ≡ Some w
    → first_of (when (is_none o) (unknown_table_number c.table) ∷ when (is_none (option_and_then (λ t. registered t c.version) o)) (unknown_version_number c.version)
    ∷ when (not (option_map_or (λ t. option_map_or (λ r. has_change_shape t r c) (option_and_then (λ t. registered t c.version) o) false) o false)) bad_shape ∷ []) ≡ when (not (fits_version w c)) bad_shape
shape_by None c w e = cc
shape_by (Some t) c w e = shape_in t c (registered t c.version) w e

-- of a known version
pub shape_of_known : (cat : Catalogue) (c : Change) (w : SchemaVersion) → schema_version cat c.table c.version ≡ Some w → shape_fault cat c ≡ when (not (fits_version w c)) bad_shape
shape_of_known cat c w e = shape_by (table_numbered cat c.table) c w e

first_found : (x y z : Option Unfair) (u : Unfair) → first_of (x ∷ y ∷ []) ≡ Some u → first_of (x ∷ y ∷ z ∷ []) ≡ Some u
first_found None None z u e = cc
first_found None (Some v) z u e = e
first_found (Some v) y z u e = e

-- and of an unknown one
pub shape_of_unknown : (cat : Catalogue) (c : Change) (u : Unfair) → version_fault cat c.table c.version ≡ Some u → shape_fault cat c ≡ Some u
shape_of_unknown cat c u e = let t = table_numbered cat c.table in let r = option_and_then (λ t. registered t c.version) t in
    first_found (when (is_none t) (unknown_table_number c.table)) (when (is_none r) (unknown_version_number c.version)) (when (not (option_map_or (λ t. option_map_or (λ r. has_change_shape t r c) r false) t false)) bad_shape) u e
