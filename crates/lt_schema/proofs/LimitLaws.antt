-- What is counted is what the limits speak of.
use Rattle.std.proofs.Common.{Bool, List, None, Option, Some, [], ap, ap₂, arith, cond, false, length, length-append, ltb-true, refl, suc, sym, true, ℕ, ◌+◌, ◌++◌, ◌<◌, ◌∙◌, ◌∷◌, ◌≡◌}
use Rattle.std.specs.Prelude.{IsTrue, find, flat_map, is_some, map, nat_lt, option_and_then, option_map, ◌==◌}
use Rattle.std.specs.List.{cons_option}
use Rattle.std.specs.Option.{option_map_or}
use Rattle.std.proofs.lemmas.Bool.{eq-eqb}
use Rattle.lt_terms.specs.Value.{rises_strictly}
use Rattle.lt_terms.specs.Kind.{FieldKinds, Kind, enumeration, field_kind, no_kinds, plain, structured}
use Rattle.lt_terms.specs.Layout.{field_leaves, layout_of, leaves}
use Rattle.lt_tables.specs.Schema.{Catalogue, Column, Registered, SchemaVersion, Table, carrier, carriers_of, column_numbers, enum_sizes, first_of, joined_all, kinds_given, leaf_count, live_version, new_table, over, over_limit, table_numbered, versions_of, with_version}
use Rattle.lt_schema.specs.Catalogues.{tables_with}
use Rattle.lt_schema.specs.Limits.{leaf_total, leaf_totals, leaves_in, long_of, numbers_in, over_counts}
use Rattle.lt_schema.proofs.Counts.{long_of_is}
use Rattle.lt_schema.proofs.TableLists.{rise_behind, unknown}

-- ---- leaves

mutual
  total_is : (k : Kind) (column : ℕ) (path : List ℕ) → length (leaves column path k) ≡ leaf_total k
  total_is (plain r) column path = refl
  total_is (enumeration names) column path = refl
  total_is (structured ks) column path = omega (arith, totals_are ks column path)

  totals_are : (ks : FieldKinds) (column : ℕ) (path : List ℕ) → length (field_leaves column path ks) ≡ leaf_totals ks
  totals_are no_kinds column path = refl
  totals_are (field_kind n name k ks) column path =
      length-append (leaves column (path ++ n ∷ []) k) (field_leaves column path ks) ∙ ap₂ (λ a b. a + b) (total_is k column (path ++ n ∷ [])) (totals_are ks column path)

counted_by : (n : ℕ) (o : Option Kind) (rest : List (ℕ × Kind)) → length (layout_of (cons_option (option_map (λ k. (n, k)) o) rest)) ≡ option_map_or leaf_total o 0 + length (layout_of rest)
counted_by n None rest = omega arith
counted_by n (Some k) rest = length-append (leaves n [] k) (layout_of rest) ∙ ap (λ a. a + length (layout_of rest)) (total_is k n [])

leaves_are : (t : Table) (ns : List ℕ) → length (layout_of (carriers_of t ns)) ≡ leaves_in t.versions ns
unfolding carrier
leaves_are t [] = refl
leaves_are t (n ∷ ns) = counted_by n (joined_all (kinds_given t.versions n)) (carriers_of t ns) ∙ ap (λ m. option_map_or leaf_total (joined_all (kinds_given t.versions n)) 0 + m) (leaves_are t ns)

-- ---- the table after the adding

pub record HasBeen (cat : Catalogue) (v : SchemaVersion) : Type 0 where
  pub table : Table
  pub found : table_numbered (with_version cat v) v.number ≡ Some table
  pub versions : table.versions ≡ versions_of cat v.number ++ live_version v.columns ∷ []
  pub count : length (with_version cat v) ≡ tables_with cat v.number

abbrev with_columns : Table → SchemaVersion → Table
with_columns t v = record t { versions = t.versions ++ live_version v.columns ∷ [] }

more : (n : ℕ) → suc (suc n) ≡ suc n + 1
more n = omega arith

one_more : (b : Bool) (m n : ℕ) → m ≡ cond b n (n + 1) → suc m ≡ cond b (suc n) (suc n + 1)
one_more true m n e = ap suc e
one_more false m n e = omega (arith, e)

been_known : (u : Table) (cat : Catalogue) (v : SchemaVersion) → u.number == v.number ≡ true → HasBeen (u ∷ cat) v
been_known u cat v e =
    let after : with_version (u ∷ cat) v ≡ with_columns u v ∷ cat = ap (λ b. cond b (with_columns u v ∷ cat) (cond (nat_lt v.number u.number) (new_table v ∷ u ∷ cat) (u ∷ with_version cat v))) e in
    record {
      table = with_columns u v;
      found = ap (λ ts. table_numbered ts v.number) after ∙ ap (λ b. cond b (Some (with_columns u v)) (table_numbered cat v.number)) e;
      versions = sym (ap (λ b. option_map_or (λ t. t.versions) (cond b (Some u) (table_numbered cat v.number)) [] ++ live_version v.columns ∷ []) e);
      count = ap length after ∙ sym (ap (λ b. cond (is_some (cond b (Some u) (table_numbered cat v.number))) (length (u ∷ cat)) (length (u ∷ cat) + 1)) e);
    }

been_fresh : (u : Table) (cat : Catalogue) (v : SchemaVersion) → IsTrue (rises_strictly (map (λ t. t.number) (u ∷ cat))) → u.number == v.number ≡ false → nat_lt v.number u.number ≡ true → HasBeen (u ∷ cat) v
been_fresh u cat v rise e d =
    let after : with_version (u ∷ cat) v ≡ new_table v ∷ u ∷ cat =
    ap (λ b. cond b (with_columns u v ∷ cat) (cond (nat_lt v.number u.number) (new_table v ∷ u ∷ cat) (u ∷ with_version cat v))) e
    ∙ ap (λ b. cond b (new_table v ∷ u ∷ cat) (u ∷ with_version cat v)) d in
    let lt : v.number < u.number = ltb-true v.number u.number d in
    let none : table_numbered (u ∷ cat) v.number ≡ None = ap (λ b. cond b (Some u) (table_numbered cat v.number)) e ∙ unknown cat v.number u.number rise (omega (arith, lt)) in
    record {
      table = new_table v;
      found = ap (λ ts. table_numbered ts v.number) after ∙ ap (λ b. cond b (Some (new_table v)) (table_numbered (u ∷ cat) v.number)) (eq-eqb v.number v.number refl);
      versions = sym (ap (λ o. option_map_or (λ t. t.versions) o [] ++ live_version v.columns ∷ []) none);
      count = ap length after ∙ more (length cat) ∙ sym (ap (λ o. cond (is_some o) (length (u ∷ cat)) (length (u ∷ cat) + 1)) none);
    }

been_later : (u : Table) (cat : Catalogue) (v : SchemaVersion) → u.number == v.number ≡ false → nat_lt v.number u.number ≡ false → HasBeen cat v → HasBeen (u ∷ cat) v
been_later u cat v e d h =
    let after : with_version (u ∷ cat) v ≡ u ∷ with_version cat v =
    ap (λ b. cond b (with_columns u v ∷ cat) (cond (nat_lt v.number u.number) (new_table v ∷ u ∷ cat) (u ∷ with_version cat v))) e
    ∙ ap (λ b. cond b (new_table v ∷ u ∷ cat) (u ∷ with_version cat v)) d in
    let same : table_numbered (u ∷ cat) v.number ≡ table_numbered cat v.number = ap (λ b. cond b (Some u) (table_numbered cat v.number)) e in
    record {
      table = h.table;
      found = ap (λ ts. table_numbered ts v.number) after ∙ ap (λ b. cond b (Some u) (table_numbered (with_version cat v) v.number)) e ∙ h.found;
      versions = h.versions ∙ sym (ap (λ o. option_map_or (λ t. t.versions) o [] ++ live_version v.columns ∷ []) same);
      count = ap length after ∙ one_more (is_some (table_numbered cat v.number)) (length (with_version cat v)) (length cat) h.count ∙ sym (ap (λ o. cond (is_some o) (length (u ∷ cat)) (length (u ∷ cat) + 1)) same);
    }

been_by : (u : Table) (cat : Catalogue) (v : SchemaVersion) (b d : Bool) → IsTrue (rises_strictly (map (λ t. t.number) (u ∷ cat))) → u.number == v.number ≡ b → nat_lt v.number u.number ≡ d → HasBeen cat v → HasBeen (u ∷ cat) v
been_by u cat v true d rise e f h = been_known u cat v e
been_by u cat v false true rise e f h = been_fresh u cat v rise e f
been_by u cat v false false rise e f h = been_later u cat v e f h

pub has_been : (cat : Catalogue) (v : SchemaVersion) → IsTrue (rises_strictly (map (λ t. t.number) cat)) → HasBeen cat v
has_been [] v rise = record { table = new_table v; found = ap (λ b. cond b (Some (new_table v)) None) (eq-eqb v.number v.number refl); versions = refl; count = refl }
has_been (u ∷ cat) v rise = been_by u cat v (u.number == v.number) (nat_lt v.number u.number) rise refl refl (has_been cat v (rise_behind u.number (map (λ t. t.number) cat) rise))

-- ---- what the limits speak of

abbrev limits_at : ℕ → SchemaVersion → Table → Option ℕ
limits_at tables v t = first_of (over 64 tables ∷ over 256 (length t.versions) ∷ over 256 (length (column_numbers t)) ∷ over 1024 (leaf_count t)
    ∷ find (nat_lt 256) (flat_map (λ c. enum_sizes c.kind) v.columns) ∷ [])

abbrev counts_of : ℕ → List Registered → List Column → Option ℕ
counts_of tables versions columns = first_of (over 64 tables ∷ over 256 (length versions) ∷ over 256 (length (numbers_in versions)) ∷ over 1024 (leaves_in versions (numbers_in versions)) ∷ long_of columns ∷ [])

counts_are : (tables : ℕ) (v : SchemaVersion) (t : Table) → limits_at tables v t ≡ counts_of tables t.versions v.columns
counts_are tables v t = ap₂ (λ n o. first_of (over 64 tables ∷ over 256 (length t.versions) ∷ over 256 (length (column_numbers t)) ∷ over 1024 n ∷ o ∷ [])) (leaves_are t (column_numbers t)) (long_of_is v.columns)

pub over_limit_is : (cat : Catalogue) (v : SchemaVersion) → IsTrue (rises_strictly (map (λ t. t.number) cat)) → over_limit (with_version cat v) v ≡ over_counts (tables_with cat v.number) (versions_of cat v.number) v.columns
unfolding over_counts
over_limit_is cat v rise =
    let h = has_been cat v rise in
    ap (option_and_then (limits_at (length (with_version cat v)) v)) h.found ∙ counts_are (length (with_version cat v)) v h.table
    ∙ ap₂ (λ n rs. counts_of n rs v.columns) h.count h.versions
