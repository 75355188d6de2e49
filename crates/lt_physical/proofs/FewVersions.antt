-- A table of a lawful catalogue has at most 256 versions.
use Rattle.std.proofs.Common.{Bool, List, None, Some, [], ap, arith, cond, false, length, ltb-false, refl, subst, suc, sym, true, zero, ℕ, ◌++◌, ◌-◌, ◌==◌, ◌∙◌, ◌∷◌, ◌≡◌, ◌≤◌}
use Rattle.std.specs.Prelude.{find, flat_map, nat_lt, option_and_then}
use Rattle.std.specs.List.{AllByRecursion}
use Rattle.lt_codecs.proofs.ListFacts.{none_mapped}
use Rattle.lt_lemmas.proofs.TableLaws.{all_faults}
use Rattle.lt_lemmas.proofs.TableLaws.{first_two}
use Rattle.lt_tables.specs.Schema.{Catalogue, IsCatalogue, SchemaVersion, Table, after_adding, after_retiring, change_at, column_numbers, enum_sizes, first_of, leaf_count, live_version, new_table, nothing_yet, over, over_limit, retired_version, schema_fault, table_numbered, too_many, when, with_retired, with_version, without_version}

abbrev AreFew : Catalogue → Type 0
AreFew cat = AllByRecursion (λ t. length t.versions ≤ 256) cat

-- ---- what no fault says

not_over : (most n : ℕ) → over most n ≡ None → n ≤ most
not_over most n e = by (nat_lt most n) refl
  where
    by : (b : Bool) → nat_lt most n ≡ b → n ≤ most
    by true l = absurd (let f : over most n ≡ Some n = ap (λ b. when b n) l in cc)
    by false l = ltb-false most n l

found_few : (cat : Catalogue) (v : SchemaVersion) (t : Table) → schema_fault cat v ≡ None → table_numbered (with_version cat v) v.number ≡ Some t → length t.versions ≤ 256
found_few cat v t e f =
    let limit = none_mapped too_many (over_limit (with_version cat v) v) (all_faults cat v e).1.1.1.1.1.1.1.1.1.1.1.0 in
    let rest = over 256 (length (column_numbers t)) ∷ over 1024 (leaf_count t) ∷ find (nat_lt 256) (flat_map (λ c. enum_sizes c.kind) v.columns) ∷ [] in
    let faults : first_of (over 64 (length (with_version cat v)) ∷ over 256 (length t.versions) ∷ rest) ≡ None =
    ap (option_and_then (λ t. first_of (over 64 (length (with_version cat v)) ∷ over 256 (length t.versions) ∷ over 256 (length (column_numbers t)) ∷ over 1024 (leaf_count t) ∷ find (nat_lt 256) (flat_map (λ c. enum_sizes c.kind) v.columns) ∷ []))) (sym f) ∙ limit in
    not_over 256 (length t.versions) (first_two (over 64 (length (with_version cat v))) (over 256 (length t.versions)) rest faults).1

-- ---- each table

added_few : (cat : Catalogue) (v : SchemaVersion) → AreFew cat → ((t : Table) → table_numbered (with_version cat v) v.number ≡ Some t → length t.versions ≤ 256) → AreFew (with_version cat v)
added_few [] v a f = (omega arith, tt)
added_few (t ∷ ts) v a f = by (t.number == v.number) (nat_lt v.number t.number) refl refl (λ g. added_few ts v a.1 g)
  where
    added : Bool → Bool → Catalogue
    added b less = cond b (record t { versions = t.versions ++ live_version v.columns ∷ [] } ∷ ts) (cond less (new_table v ∷ t ∷ ts) (t ∷ with_version ts v))

    by : (b less : Bool) → (t.number == v.number) ≡ b → nat_lt v.number t.number ≡ less → (((u : Table) → table_numbered (with_version ts v) v.number ≡ Some u → length u.versions ≤ 256) → AreFew (with_version ts v)) → AreFew (added b less)
    by true less e d more = (f (record t { versions = t.versions ++ live_version v.columns ∷ [] }) (rw e (rw e refl)), a.1)
    by false true e d more = (omega arith, a)
    by false false e d more = (a.0, more (λ u g. f u (rw e (rw d (rw e g)))))

retired_few : (cat : Catalogue) (number v : ℕ) → AreFew cat → AreFew (without_version cat number v)
retired_few [] number v a = tt
retired_few (t ∷ ts) number v a = (by (t.number == number), retired_few ts number v a.1)
  where
    changed : {A : Type 0} (f : A → A) (n : ℕ) (xs : List A) → length (change_at f n xs) ≡ length xs
    changed f n [] = refl
    changed f zero (x ∷ xs) = refl
    changed f (suc n) (x ∷ xs) = ap suc (changed f n xs)

    by : (b : Bool) → length (cond b (with_retired v t) t).versions ≤ 256
    by true = omega (arith, changed retired_version (v - 1) t.versions, a.0)
    by false = a.0

pub few : (cat : Catalogue) → IsCatalogue cat → AreFew cat
few _ nothing_yet = tt
few _ (after_adding cat v h e) = added_few cat v (few cat h) (λ t f. found_few cat v t e f)
few _ (after_retiring cat number v h e) = retired_few cat number v (few cat h)

pub few_versions : (cat : Catalogue) (number : ℕ) (t : Table) → AreFew cat → table_numbered cat number ≡ Some t → length t.versions ≤ 256
few_versions [] number t a e = absurd cc
few_versions (u ∷ ts) number t a e = by (u.number == number) (few_versions ts number t a.1) e
  where
    by : (b : Bool) → (table_numbered ts number ≡ Some t → length t.versions ≤ 256) → cond b (Some u) (table_numbered ts number) ≡ Some t → length t.versions ≤ 256
    by true rest f = let same : u ≡ t = cc in subst (λ x. length x.versions ≤ 256) same a.0
    by false rest f = rest f
