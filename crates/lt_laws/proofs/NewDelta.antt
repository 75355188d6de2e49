-- The delta that a flush or a compaction makes is lawful: its layouts are the carriers, and its lists the bundles of lawful versions.
use Rattle.std.proofs.Common.{Bool, List, [], ap, arith, cond, eq-eqb, eqb-true, false, le-leb, length, lt-ltb, ltb-true, refl, subst, sym, true, ℕ, ◌<◌, ◌∙◌, ◌∷◌, ◌≡◌}
use Rattle.std.specs.Prelude.{Contains, IsTrue, Option, Some, filter, map, nat_le, nat_lt, not, option_map, ◌&&◌, ◌==◌, ◌^◌, ◌||◌}
use Rattle.std.specs.List.{AllByRecursion, list_all, list_any}
use Rattle.std.proofs.lemmas.Bool.{and_from, and_parts}
use Rattle.std.specs.Option.{option_map_or}
use Rattle.lt_terms.specs.Value.{is_number, rises_above, rises_strictly}
use Rattle.lt_terms.specs.Kind.{Kind, nesting, rank_number}
use Rattle.lt_terms.specs.Layout.{Leaf, layout_of, same_leaf}
use Rattle.lt_terms.specs.Log.{Change, bit}
use Rattle.lt_terms.specs.Key.{is_key_of, key_bytes}
use Rattle.lt_tables.specs.Schema.{Catalogue, Column, IsCatalogue, Table, carrier, carriers, column_live, column_numbered, has_column, key_kinds, kinds_given, sets_shape, table_numbered}
use Rattle.lt_tables.specs.Version.{AreVersions, RowVersion, is_ordered, is_version, seen}
use Rattle.lt_tables.specs.Pump.{names_rise}
use Rattle.lt_storage.specs.Store.{AreLawfulTables, IsKeyBytes, IsLawfulTable, IsLayout, TableDelta, is_covered, is_store_kind, leaf_covered}
use Rattle.lt_machine.specs.Machine.{delta_of, flushed_lists, not_empty, seen_pending, table_delta, table_numbers}
use Rattle.lt_lemmas.proofs.StoreKinds.{is_numbered}
use Rattle.lt_lemmas.proofs.ListFacts.{all_from, find_held, mapped_some}
use Rattle.lt_lemmas.proofs.TableLaws.{FineColumns, IsFineTable, fine_table, fine_tables}
use Rattle.lt_lemmas.proofs.CatalogueLaws.{AllPast, NumbersRise, numbers_rise}
use Rattle.lt_lemmas.proofs.VersionGrowth.{its_number}
use Rattle.lt_lemmas.proofs.PumpLaws.{Name}
use Rattle.lt_laws.proofs.ListFacts.{all_at, from_filter_map, from_map, held_is_found}
use Rattle.lt_laws.proofs.StoreKinds.{store_all}
use Rattle.lt_laws.proofs.TableGrowth.{are_columns, carrier_has, cols, has_some, leaf_in_cols}
use Rattle.lt_laws.proofs.ReadLaws.{all_tests, are_fine, live_numbers, rises_kept}
use Rattle.lt_laws.proofs.WidenedStore.{known_carriers}
use Rattle.lt_laws.proofs.LeafLaws.{IsMarked, all_marked, leaf_same}
use Rattle.lt_laws.proofs.ScanLaws.{any_of, seen_from}
use Rattle.lt_laws.proofs.HeldLaws.{rises_tail}
use Rattle.lt_laws.proofs.CutLaws.{cut_lawful}
use Rattle.lt_laws.proofs.ListLaws.{cut-whole}
use Rattle.lt_laws.proofs.AnswerLaws.{IsSound}
use Rattle.lt_laws.proofs.ScanLemmas.{seen-key}
use Rattle.lt_laws.proofs.WidenedRows.{sound_shape}
use Rattle.lt_laws.proofs.SeenLaws.{seen_lawful}
use Rattle.lt_laws.proofs.ShelfGrowth.{made_part, pending_ordered}
use Rattle.lt_lemmas.proofs.SnapshotLaws.{or_right}

-- ---- the carriers are a layout, and cover themselves

abbrev IsGiven : ℕ → Kind → Type 0
IsGiven n k = IsTrue (is_number n) × IsTrue (is_numbered k)

given_numbered : (t : Table) (n : ℕ) → IsFineTable t → AllByRecursion (IsGiven n) (kinds_given t.versions n)
given_numbered t n f = all_from (IsGiven n) (kinds_given t.versions n) (λ k h.
    let r = from_filter_map (λ r. option_map (λ c. c.kind) (column_numbered r.columns n)) t.versions k h in
    let c = mapped_some (λ (c : Column). c.kind) (column_numbered r.0.columns n) k r.2 in
    let g = find_held (λ (c : Column). c.number == n) r.0.columns c.0 c.1 in
    let x = all_at (λ (c : Column). IsTrue (is_number c.number) × IsTrue (is_numbered c.kind)) r.0.columns c.0 (all_at FineColumns t.versions r.0 f.versions r.1).numbers g.0 in
    (subst (λ (m : ℕ). IsTrue (is_number m)) (eqb-true c.0.number n g.1) x.0, subst (λ (k : Kind). IsTrue (is_numbered k)) c.2 x.1))

only_numbered : (n : ℕ) (ks : List Kind) → AllByRecursion (IsGiven n) ks → AllByRecursion (λ k. IsTrue (is_numbered k)) ks
only_numbered n [] a = tt
only_numbered n (k ∷ ks) a = (a.0.1, only_numbered n ks a.1)

carrier_stored : (t : Table) (n : ℕ) (k : Kind) → IsFineTable t → carrier t n ≡ Some k → IsTrue (is_number n) × IsTrue (is_store_kind k)
unfolding carrier
carrier_stored t n k f e =
    let g = given_numbered t n f in
    let s = has_some (kinds_given t.versions n) k e in
    ((all_at (IsGiven n) (kinds_given t.versions n) s.0 g s.1).0, store_all (kinds_given t.versions n) k e (only_numbered n (kinds_given t.versions n) g))

abbrev is_store_column : ℕ × Kind → Bool
is_store_column c = is_number c.0 && is_store_kind c.1 && nat_le (nesting c.1) 4

pub tests_hold : {A : Type 0} (test : A → Bool) (xs : List A) → AllByRecursion (λ x. IsTrue (test x)) xs → IsTrue (list_all test xs)
tests_hold test [] a = refl
tests_hold test (x ∷ xs) a = and_from _ _ a.0 (tests_hold test xs a.1)

cols_stored : (t : Table) → IsFineTable t → IsTrue (rises_above 0 (map (λ c. c.0) (cols t)) && list_all is_store_column (cols t))
cols_stored t f =
    let fine = are_fine t f in
    and_from _ _ fine.0 (tests_hold is_store_column (cols t) (all_from (λ c. IsTrue (is_store_column c)) (cols t) (λ c h.
    let r = from_filter_map (λ n. option_map (λ k. let x : ℕ × Kind = (n, k) in x) (carrier t n)) (live_numbers t) c h in
    let m = mapped_some (λ k. let x : ℕ × Kind = (r.0, k) in x) (carrier t r.0) c r.2 in
    let s = carrier_stored t r.0 m.0 f m.1 in
    let low = (and_parts _ (nat_le (nesting c.1) 4) (all_at (λ c. IsTrue _) (cols t) c (all_tests _ (cols t) fine.1) h)).1 in
    and_from _ _ (subst (λ (x : ℕ × Kind). IsTrue (is_number x.0 && is_store_kind x.1)) m.2 (and_from _ _ s.0 s.1)) low)))

pub carriers_layout : (cat : Catalogue) (n : ℕ) (t : Table) → IsCatalogue cat → table_numbered cat n ≡ Some t → IsLayout (carriers cat n)
carriers_layout cat n t is e = (cols t, known_carriers cat n t e, cols_stored t (fine_table cat n t is e))

leaf_covers : (cat : Catalogue) (n : ℕ) (t : Table) (l : Leaf) → IsFineTable t → table_numbered cat n ≡ Some t → Contains (carriers cat n) l → IsTrue (leaf_covered cat n l)
leaf_covers cat n t l f e h =
    let ls = layout_of (cols t) in
    let i : Contains ls l = subst (λ (x : List Leaf). Contains x l) (known_carriers cat n t e) h in
    let o = leaf_in_cols t l (all_at (IsMarked (cols t)) ls l (all_marked (cols t) (are_columns t f)) i) in
    let fits : Leaf → Bool = λ k. same_leaf k l && (bit k.presence == bit l.presence) && nat_le (rank_number l.rank) (rank_number k.rank) in
    let found : IsTrue (list_any fits (carriers cat n)) = any_of fits (carriers cat n) l h (and_from _ _ (and_from _ _ (leaf_same l l refl refl) (eq-eqb (bit l.presence) (bit l.presence) refl)) (le-leb (rank_number l.rank) (rank_number l.rank) (omega arith))) in
    subst (λ (x : Option Table). IsTrue (option_map_or (λ t. list_any (has_column l.column) t.versions && (not (column_live t l.column) || list_any fits (carriers cat n))) x false)) (sym e)
    (and_from _ _ (carrier_has t l.column o.kind o.carried).0 (or_right (not (column_live t l.column)) (list_any fits (carriers cat n)) found))

pub carriers_cover : (cat : Catalogue) (n : ℕ) (t : Table) → IsCatalogue cat → table_numbered cat n ≡ Some t → IsTrue (is_covered cat n (carriers cat n))
carriers_cover cat n t is e = tests_hold (leaf_covered cat n) (carriers cat n) (all_from (λ l. IsTrue (leaf_covered cat n l)) (carriers cat n) (λ l h. leaf_covers cat n t l (fine_table cat n t is e) e h))

-- ---- the numbers of tables

numbers_above : (low : ℕ) (ts : Catalogue) → AllPast low ts → NumbersRise ts → IsTrue (rises_above low (table_numbers ts))
numbers_above low [] p r = refl
numbers_above low (t ∷ ts) p r = and_from _ _ (lt-ltb low t.number p.0) (numbers_above t.number ts r.0 r.1)

all_positive : (ts : Catalogue) → AllByRecursion IsFineTable ts → AllPast 0 ts
all_positive [] a = tt
all_positive (t ∷ ts) a = (ltb-true 0 t.number (and_parts (nat_lt 0 t.number) (nat_lt t.number (2 ^ 16)) a.0.number).0, all_positive ts a.1)

numbers_rising : (cat : Catalogue) → IsCatalogue cat → IsTrue (rises_above 0 (table_numbers cat))
numbers_rising cat is = numbers_above 0 cat (all_positive cat (fine_tables cat is)) (numbers_rise cat is)

-- the tables of which a list is not empty
kept_by : (g : ℕ → List RowVersion) (n : ℕ) (b : Bool) (xs : List (ℕ × List RowVersion)) (ns : List ℕ) → map (λ x. x.0) xs ≡ ns → map (λ x. x.0) (cond b ((n, g n) ∷ xs) xs) ≡ cond b (n ∷ ns) ns
kept_by g n true xs ns e = ap (λ (l : List ℕ). n ∷ l) e
kept_by g n false xs ns e = e

tables_kept : (g : ℕ → List RowVersion) (ns : List ℕ) → map (λ x. x.0) (filter not_empty (map (λ n. let x : ℕ × List RowVersion = (n, g n) in x) ns)) ≡ filter (λ n. nat_lt 0 (length (g n))) ns
tables_kept g [] = refl
tables_kept g (n ∷ ns) = kept_by g n (nat_lt 0 (length (g n))) (filter not_empty (map (λ n. let x : ℕ × List RowVersion = (n, g n) in x) ns)) (filter (λ n. nat_lt 0 (length (g n))) ns) (tables_kept g ns)

map_twice : (cat : Catalogue) (xs : List (ℕ × List RowVersion)) → map (λ (t : TableDelta). t.table) (map (table_delta cat) xs) ≡ map (λ x. x.0) xs
map_twice cat [] = refl
map_twice cat (x ∷ xs) = ap (λ (l : List ℕ). x.0 ∷ l) (map_twice cat xs)

pub tables_rise : (cat : Catalogue) (g : ℕ → List RowVersion) → IsCatalogue cat → IsTrue (rises_strictly (map (λ (t : TableDelta). t.table) (map (table_delta cat) (filter not_empty (map (λ n. let x : ℕ × List RowVersion = (n, g n) in x) (table_numbers cat))))))
tables_rise cat g is = subst (λ (ns : List ℕ). IsTrue (rises_strictly ns)) (sym (map_twice cat (filter not_empty (map (λ n. let x : ℕ × List RowVersion = (n, g n) in x) (table_numbers cat))) ∙ tables_kept g (table_numbers cat)))
    (rises_tail 0 (filter (λ n. nat_lt 0 (length (g n))) (table_numbers cat)) (rises_kept (λ n. nat_lt 0 (length (g n))) 0 (table_numbers cat) (numbers_rising cat is)))

-- ---- a part of a table made of lawful versions

pub part_made : (cat : Catalogue) (n : ℕ) (t : Table) (vs : List RowVersion) → IsCatalogue cat → table_numbered cat n ≡ Some t → IsTrue (is_ordered vs) → 0 < length vs → AllByRecursion (λ v. IsTrue (is_version (carriers cat n) v)) vs → AllByRecursion (λ v. IsKeyBytes t v.key) vs
    → IsLawfulTable cat (table_delta cat (n, vs))
part_made cat n t vs is e o some each keys = record {
  table = t;
  known = e;
  layout = carriers_layout cat n t is e;
  covered = carriers_cover cat n t is e;
  versions = subst (AreVersions (carriers cat n)) (sym (cut-whole (carriers cat n) vs)) (record { ordered = o; each = each });
  keys = subst (AllByRecursion (λ v. IsKeyBytes t v.key)) (sym (cut-whole (carriers cat n) vs)) keys;
  bundles = cut_lawful (carriers cat n) vs o some;
}

pub number_known : (cat : Catalogue) (n : ℕ) → Contains (table_numbers cat) n → (t : Table) × (table_numbered cat n ≡ Some t)
number_known cat n h = let m = from_map (λ (t : Table). t.number) cat n h in held_is_found (λ (t : Table). t.number == n) cat m.0 m.1 (eq-eqb m.0.number n m.2)

-- the key of a fair change is one of its table
pub seen_key : (cat : Catalogue) (n : ℕ) (t : Table) (c : Change) → table_numbered cat n ≡ Some t → c.table ≡ n → IsSound cat c → IsKeyBytes t (seen cat c).key
seen_key cat n t c e k s =
    let x = sound_shape cat c s in
    let d : Some x.table ≡ Some t = sym x.known ∙ ap (table_numbered cat) k ∙ e in
    let same : x.table ≡ t = cc in
    let of_kinds : IsTrue (is_key_of (key_kinds t.key) c.key) = subst (λ (y : Table). IsTrue (is_key_of (key_kinds y.key) c.key)) same (and_parts (is_key_of (key_kinds x.table.key) c.key) (sets_shape c.op x.version.columns c.set) x.shape).0 in
    (c.key, of_kinds, seen-key cat c ∙ ap (λ (m : ℕ). key_bytes m c.key) (k ∙ sym (its_number cat n t e)))

-- ---- what a flush makes

flushed_table : (source : List Change) (cat : Catalogue) (names : List Name) (n : ℕ) → IsCatalogue cat → AllByRecursion (IsSound cat) source → IsTrue (names_rise names) → Contains (table_numbers cat) n → 0 < length (seen_pending source cat names n)
    → IsLawfulTable cat (table_delta cat (n, seen_pending source cat names n))
flushed_table source cat names n is sound rise known some =
    let t = number_known cat n known in
    let pend = seen_pending source cat names n in
    part_made cat n t.0 pend is t.1 (pending_ordered source cat names n rise) some
    (all_from (λ v. IsTrue (is_version (carriers cat n) v)) pend (λ v h. let f = seen_from cat source names n v h in
    subst (λ (w : RowVersion). IsTrue (is_version (carriers cat n) w)) (sym f.is) (subst (λ (m : ℕ). IsTrue (is_version (carriers cat m) (seen cat f.change))) f.of_table (seen_lawful cat f.change is (all_at (IsSound cat) source f.change sound f.held)))))
    (all_from (λ v. IsKeyBytes t.0 v.key) pend (λ v h. let f = seen_from cat source names n v h in
    subst (λ (w : RowVersion). IsKeyBytes t.0 w.key) (sym f.is) (seen_key cat n t.0 f.change t.1 f.of_table (all_at (IsSound cat) source f.change sound f.held))))

pub flushed_lawful : (source : List Change) (cat : Catalogue) (id : ℕ) (names : List Name) → IsCatalogue cat → AllByRecursion (IsSound cat) source → IsTrue (names_rise names) → AreLawfulTables cat (delta_of id cat (flushed_lists source cat names))
flushed_lawful source cat id names is sound rise = (
  tables_rise cat (seen_pending source cat names) is,
  all_from (IsLawfulTable cat) (map (table_delta cat) (flushed_lists source cat names)) (λ d h.
      let p = made_part cat (seen_pending source cat names) d h in
      subst (IsLawfulTable cat) p.2 (flushed_table source cat names p.0 is sound rise p.1 p.3)),
)
