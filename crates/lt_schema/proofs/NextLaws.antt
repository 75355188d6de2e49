-- What a version is that passed the tests, and how many versions there are.
use Rattle.std.proofs.Common.{Bool, List, None, Option, Some, [], ap, ap₂, arith, cond, eqb-true, false, length, length-append, ltb-false, refl, subst, suc, sym, true, zero, ℕ, ◌+◌, ◌++◌, ◌-◌, ◌∙◌, ◌∷◌, ◌≡◌, ◌≤◌}
use Rattle.std.specs.Prelude.{Err, Ok, OnErr, OnOk, Result, nat_lt, not, ◌&&◌, ◌==◌, ◌||◌}
use Rattle.std.specs.List.{AllByRecursion}
use Rattle.std.specs.Option.{option_map_or}
use Rattle.std.proofs.lemmas.Bool.{and_parts, eq-eqb}
use Rattle.lt_lemmas.proofs.ConversionLemmas.{same_bytes-same}
use Rattle.lt_codecs.proofs.ListFacts.{any_none, none_mapped}
use Rattle.lt_lemmas.proofs.ListFacts.{find_all}
use Rattle.lt_codecs.proofs.ListFacts.{or_left, or_right}
use Rattle.lt_lemmas.proofs.ListFacts.{when_none}
use Rattle.lt_lemmas.proofs.VersionGrowth.{its_number}
use Rattle.lt_terms.specs.declared.KeyKind.{KeyKind}
use Rattle.lt_terms.specs.declared.KeyKind.TheVariants as key_kind
use Rattle.lt_terms.specs.Conversion.{same_bytes}
use Rattle.lt_tables.specs.Schema.{Catalogue, Column, IsCatalogue, KeyColumn, Registered, SchemaVersion, Table, after_adding, after_retiring, change_at, is_key_changed, is_mismatch, key_changed, live_version, new_table, nothing_yet, over, retired_version, same_key_columns, same_key_kind, schema_fault, table_mismatch, table_numbered, too_many, version_not_next, versions_of, when, with_retired, with_version, without_version}
use Rattle.lt_schema.specs.Catalogues.{IsNext, tables_with}
use Rattle.lt_schema.specs.Faults.{fault_after, fault_against, fault_alone, fault_among}
use Rattle.lt_schema.specs.Limits.{over_counts}
use Rattle.lt_schema.proofs.FaultLaws.{fault_is, rises}

-- ---- the key columns

same_kind_is : (a b : KeyKind) → same_key_kind a b ≡ true → a ≡ b
same_kind_is key_kind.Int64 key_kind.Int64 e = refl
same_kind_is key_kind.Text key_kind.Text e = refl
same_kind_is key_kind.Int64 key_kind.Text e = cc
same_kind_is key_kind.Text key_kind.Int64 e = cc

abbrev key_column : List ℕ → KeyKind → KeyColumn
key_column name kind = record { name = name; kind = kind }

same_key_is : (a b : List KeyColumn) → same_key_columns a b ≡ true → a ≡ b
same_key_is [] [] e = refl
same_key_is [] (y ∷ b) e = cc
same_key_is (x ∷ a) [] e = cc
same_key_is (x ∷ a) (y ∷ b) e =
    let both = and_parts (same_bytes x.name y.name && same_key_kind x.kind y.kind) (same_key_columns a b) e in
    let here = and_parts (same_bytes x.name y.name) (same_key_kind x.kind y.kind) both.0 in
    ap₂ (λ k ks. k ∷ ks) (ap₂ key_column (same_bytes-same x.name y.name here.0) (same_kind_is x.kind y.kind here.1)) (same_key_is a b both.1)

-- ---- what passed the tests

pub record Passed (cat : Catalogue) (v : SchemaVersion) : Type 0 where
  pub mismatch : is_mismatch cat v ≡ false
  pub version : v.version ≡ length (versions_of cat v.number) + 1
  pub key : is_key_changed cat v ≡ false
  pub few : length (versions_of cat v.number) + 1 ≤ 256

few_by : (tables : ℕ) (versions : List Registered) (columns : List Column) → over_counts tables versions columns ≡ None → length versions + 1 ≤ 256
unfolding over_counts
few_by tables versions columns e =
    let later = or_right (over 64 tables) _ e in
    let fits : length (versions ++ live_version columns ∷ []) ≤ 256 = ltb-false 256 _ (when_none _ _ (or_left (over 256 (length (versions ++ live_version columns ∷ []))) _ later)) in
    omega (arith, fits, length-append versions (live_version columns ∷ []))

not-true : (b : Bool) → not b ≡ false → b ≡ true
not-true true e = refl
not-true false e = cc

pub passed : (cat : Catalogue) (v : SchemaVersion) → IsCatalogue cat → schema_fault cat v ≡ None → Passed cat v
unfolding fault_among
passed cat v is e =
    let count = length (versions_of cat v.number) in
    let against = or_right (fault_alone v) (fault_against cat v) (sym (fault_is cat v is) ∙ e) in
    let among = or_left (fault_among cat v) _ against in
    let columns = or_right (fault_among cat v) _ against in
    let behind = or_right (when (is_mismatch cat v) (table_mismatch v.number)) _ among in
    let last = or_right (when (not (v.version == count + 1)) (version_not_next (count + 1))) _ behind in
    record {
      mismatch = when_none (is_mismatch cat v) (table_mismatch v.number) (or_left _ _ among);
      version = eqb-true v.version (count + 1) (not-true (v.version == count + 1) (when_none _ _ (or_left _ _ behind)));
      key = when_none (is_key_changed cat v) key_changed (or_left _ _ last);
      few = few_by (tables_with cat v.number) (versions_of cat v.number) v.columns (none_mapped too_many _ (or_right (fault_after (versions_of cat v.number) v.columns) _ columns));
    }

-- ---- the version is the next

abbrev made : List ℕ → ℕ → ℕ → List KeyColumn → List Column → SchemaVersion
made table number version key columns = record { table = table; number = number; version = version; key = key; columns = columns }

name_by : (b same : Bool) → b ≡ true → (b && not same) || (not b && same) ≡ false → same ≡ true
name_by true true e f = refl
name_by true false e f = cc
name_by false same e f = cc

or_last : (a b c : Bool) → a || b || c ≡ false → c ≡ false
or_last true b c e = cc
or_last false true c e = cc
or_last false false c e = e

pub next_of : (cat : Catalogue) (v : SchemaVersion) → IsCatalogue cat → schema_fault cat v ≡ None → IsNext cat v
next_of cat v is e = let p = passed cat v is e in record {
  rise = rises cat is;
  of_table = λ t found.
      let number : t.number ≡ v.number = its_number cat v.number t found in
      let versions : versions_of cat v.number ≡ t.versions = ap (λ o. option_map_or (λ t. t.versions) o []) found in
      let test = λ (u : Table). (u.number == v.number && not (same_bytes u.name v.table)) || (not (u.number == v.number) && same_bytes u.name v.table) in
      let here = (find_all (λ u. test u ≡ false) (λ u. u.number == v.number) cat t (any_none test cat p.mismatch) found).0 in
      let name : t.name ≡ v.table = same_bytes-same t.name v.table (name_by (t.number == v.number) (same_bytes t.name v.table) (eq-eqb t.number v.number number) here) in
      let unchanged : option_map_or (λ u. not (same_key_columns u.key v.key)) (table_numbered cat v.number) false ≡ false = or_last (length v.key == 0) (nat_lt 8 (length v.key)) _ p.key in
      let key : t.key ≡ v.key = same_key_is t.key v.key (not-true (same_key_columns t.key v.key) (sym (ap (λ o. option_map_or (λ u. not (same_key_columns u.key v.key)) o false) found) ∙ unchanged)) in
      let count : length (versions_of cat v.number) ≡ length t.versions = ap length versions in
      let version : v.version ≡ suc (length t.versions) = omega (arith, p.version, count) in
      ap (λ x. made x v.number v.version v.key v.columns) (sym name) ∙ ap (λ x. made t.name x v.version v.key v.columns) (sym number)
      ∙ ap (λ x. made t.name t.number x v.key v.columns) version ∙ ap (λ x. made t.name t.number (suc (length t.versions)) x v.columns) (sym key);
  fresh = λ none.
      let count : length (versions_of cat v.number) ≡ 0 = ap (λ o. length (option_map_or (λ t. t.versions) o [])) none in
      omega (arith, p.version, count);
}

-- ---- how many versions there are

abbrev AreFew : Catalogue → Type 0
AreFew cat = AllByRecursion (λ t. length t.versions ≤ 256) cat

few_added_by : (v : SchemaVersion) (t : Table) (ts : Catalogue) (b d : Bool) → length (option_map_or (λ t. t.versions) (cond b (Some t) (table_numbered ts v.number)) []) + 1 ≤ 256 → AreFew (t ∷ ts) → (b ≡ false → AreFew (with_version ts v))
    → AreFew (cond b (record t { versions = t.versions ++ live_version v.columns ∷ [] } ∷ ts) (cond d (new_table v ∷ t ∷ ts) (t ∷ with_version ts v)))
few_added_by v t ts true d bound a ih = (omega (arith, bound, length-append t.versions (live_version v.columns ∷ [])), a.1)
few_added_by v t ts false true bound a ih = (omega arith, a)
few_added_by v t ts false false bound a ih = (a.0, ih refl)

few_added : (v : SchemaVersion) (cat : Catalogue) → length (versions_of cat v.number) + 1 ≤ 256 → AreFew cat → AreFew (with_version cat v)
few_added v [] bound a = (omega arith, tt)
few_added v (t ∷ ts) bound a = few_added_by v t ts (t.number == v.number) (nat_lt v.number t.number) bound a
    (λ e. few_added v ts (subst (λ b. length (option_map_or (λ t. t.versions) (cond b (Some t) (table_numbered ts v.number)) []) + 1 ≤ 256) e bound) a.1)

length-change : (rs : List Registered) (k : ℕ) → length (change_at retired_version k rs) ≡ length rs
length-change [] k = refl
length-change (r ∷ rs) zero = refl
length-change (r ∷ rs) (suc k) = ap suc (length-change rs k)

few_retired_by : (b : Bool) (v : ℕ) (t : Table) → length t.versions ≤ 256 → length (cond b (with_retired v t) t).versions ≤ 256
few_retired_by true v t h = omega (arith, h, length-change t.versions (v - 1))
few_retired_by false v t h = h

few_retired : (number v : ℕ) (cat : Catalogue) → AreFew cat → AreFew (without_version cat number v)
few_retired number v [] a = tt
few_retired number v (t ∷ ts) a = (few_retired_by (t.number == number) v t a.0, few_retired number v ts a.1)

are_few : (cat : Catalogue) → IsCatalogue cat → AreFew cat
are_few _ nothing_yet = tt
are_few _ (after_adding cat v is e) = few_added v cat (passed cat v is e).few (are_few cat is)
are_few _ (after_retiring cat number v is e) = few_retired number v cat (are_few cat is)

few_found : (cat : Catalogue) (o : Option Table) (n : ℕ) → AreFew cat → table_numbered cat n ≡ o → length (option_map_or (λ t. t.versions) o []) ≤ 256
few_found cat None n a e = omega arith
few_found cat (Some t) n a e = (find_all (λ t. length t.versions ≤ 256) (λ t. t.number == n) cat t a e).0

-- a table of a lawful catalogue has at most 256 versions
pub few_versions : (cat : Catalogue) (n : ℕ) → IsCatalogue cat → length (versions_of cat n) ≤ 256
few_versions cat n is = few_found cat (table_numbered cat n) n (are_few cat is) refl

-- ---- a lawful catalogue after an addition, also where memory ran out

pub stays_lawful : {A E : Type 0} (r : Result A E) (old new : Catalogue) (v : SchemaVersion) → IsCatalogue old → schema_fault old v ≡ None → OnOk r (new ≡ with_version old v) → OnErr r (new ≡ old) → IsCatalogue new
stays_lawful (Ok a) old new v is none ok err = subst IsCatalogue (sym ok) (after_adding old v is none)
stays_lawful (Err e) old new v is none ok err = subst IsCatalogue (sym err) is
