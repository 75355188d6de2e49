-- Under a catalogue that grew by one step a store holds the same: its layouts stay covered, and what it stores goes over to the new carriers.
use Rattle.std.proofs.Common.{Bool, List, [], ap, ap₂, arith, eq-eqb, eqb-true, false, le-leb, length, refl, subst, suc, sym, true, zero, ℕ, ◌∙◌, ◌∷◌, ◌≡◌, ◌≤◌}
use Rattle.std.specs.Prelude.{Contains, IsTrue, None, Option, Some, map, nat_le, not, ◌&&◌, ◌==◌, ◌||◌}
use Rattle.std.specs.Option.{option_map_or}
use Rattle.std.specs.List.{AllByRecursion, list_all, list_any}
use Rattle.std.proofs.lemmas.Bool.{and_from, and_parts}
use Rattle.lt_terms.specs.Layout.{Cell, Leaf, agree, are_lawful, coerce, is_unset, layout_of, same_leaf, same_truth, suits, with_cells}
use Rattle.lt_terms.specs.Kind.{rank_number}
use Rattle.lt_terms.specs.Log.{bit}
use Rattle.lt_terms.specs.Key.{Range, is_key_of, key_bytes}
use Rattle.lt_tables.specs.Schema.{Catalogue, Table, carrier_layout, carriers, column_live, has_column, key_kinds, table_numbered}
use Rattle.lt_tables.specs.Version.{RowVersion, clip, coerce_all, is_version, merge}
use Rattle.lt_storage.specs.Store.{AreLawfulTables, Delta, IsKeyBytes, IsLawfulTable, TableDelta, carried_versions, delta_with, deltas_of, is_covered, leaf_covered, merged_in, table_of, versions_in}
use Rattle.lt_codecs.proofs.ListFacts.{all_map}
use Rattle.lt_lemmas.proofs.SoundLaws.{pick}
use Rattle.lt_lemmas.proofs.TableLaws.{IsFineTable, fine_table}
use Rattle.lt_lemmas.proofs.VersionGrowth.{its_number}
use Rattle.lt_lemmas.proofs.ListFacts.{all_from, find_held}
use Rattle.lt_laws.proofs.TableGrowth.{Widens, are_columns, cols, covered_wide, in_cols, kind_of_leaf, leaf_in_cols, only_right}
use Rattle.lt_laws.proofs.LeafLaws.{IsMarked, Mark, all_marked, leaf_at, leaf_in, leaf_in_layout, leaf_same}
use Rattle.lt_laws.proofs.ScanLemmas.{found-carrier, kind_for}
use Rattle.lt_laws.proofs.ReadLaws.{all_tests, live_numbers}
use Rattle.lt_laws.proofs.ScanLaws.{any_of}
use Rattle.lt_laws.proofs.VersionGrowth.{Grew}
use Rattle.lt_laws.proofs.CoerceLaws.{AreFit, IsServed, coerce_twice, suits_rank}
use Rattle.lt_laws.proofs.ListFacts.{all_at, from_filter_map}
use Rattle.lt_laws.proofs.WidenLaws.{presence_bool}
use Rattle.lt_laws.proofs.ClipLaws.{coerce-clip, coerce-merge}
use Rattle.lt_lemmas.proofs.SnapshotLaws.{or_left, or_right}
use Rattle.lt_lemmas.proofs.PointLaws.{left, right}

-- ---- the carriers of a known table

pub known_carriers : (cat : Catalogue) (n : ℕ) (t : Table) → table_numbered cat n ≡ Some t → carriers cat n ≡ layout_of (cols t)
unfolding carrier_layout
known_carriers cat n t e = ap (λ (o : Option Table). option_map_or carrier_layout o []) e

-- a place in the older carriers is one in the wider ones, where the column stays live
pub place_up : (t u : Table) (n : ℕ) (path : List ℕ) (m : Mark) → Widens t u → column_live u n ≡ true → leaf_in (cols t) n path ≡ Some m → (w : Mark) × (leaf_in (cols u) n path ≡ Some w) × (rank_number m.0 ≤ rank_number w.0) × (w.1 ≡ m.1)
place_up t u n path m w live e =
    let k = kind_of_leaf t n path m (kind_for (cols t) n) refl e in
    let c = found-carrier t n (live_numbers t) k.0 k.1 in
    let up = w.carrier n k.0.1 c in
    let x = up.2 path m k.2 in
    (x.0, in_cols u n up.0 path live up.1 ∙ x.1, x.2, x.3)

-- ---- layouts stay covered

covered_by : (cat wide : Catalogue) (n : ℕ) (t u : Table) (l : Leaf) → IsFineTable t → table_numbered cat n ≡ Some t → table_numbered wide n ≡ Some u → Widens t u → IsTrue (leaf_covered cat n l) → IsTrue (leaf_covered wide n l)
covered_by cat wide n t u l fine e f w c =
    let k : t.number ≡ n = its_number cat n t e in
    let g = covered_wide cat t l (ap (table_numbered cat) k ∙ e) fine (subst (λ (i : ℕ). IsTrue (leaf_covered cat i l)) (sym k) c) in
    let fits = λ (k : Leaf). same_leaf k l && (bit k.presence == bit l.presence) && nat_le (rank_number l.rank) (rank_number k.rank) in
    let second : IsTrue (not (column_live u l.column) || list_any fits (carriers wide n)) = pick (column_live u l.column)
    (λ live.
    let m = g.1 (w.live l.column g.0 live) in
    let x = place_up t u l.column l.path m.0 w live m.1 in
    let leaf = leaf_at l.column l.path x.0 in
    let i = leaf_in_layout (cols u) l.column l.path x.0 x.1 in
    let p : (bit leaf.presence == bit l.presence) ≡ true = eq-eqb (bit leaf.presence) (bit l.presence) (ap bit (x.3 ∙ m.3)) in
    let q : nat_le (rank_number l.rank) (rank_number leaf.rank) ≡ true = le-leb (rank_number l.rank) (rank_number x.0.0) (omega (arith, m.2, x.2)) in
    or_right (not (column_live u l.column)) (list_any fits (carriers wide n)) (subst (λ (ls : List Leaf). list_any fits ls ≡ true) (sym (known_carriers wide n u f)) (any_of fits (layout_of (cols u)) leaf i (and_from _ _ (and_from _ _ (leaf_same leaf l refl refl) p) q))))
    (λ dead. or_left (not (column_live u l.column)) (list_any fits (carriers wide n)) (ap not dead)) in
    subst (λ (o : Option Table). IsTrue (option_map_or (λ x. list_any (has_column l.column) x.versions && (not (column_live x l.column) || list_any fits (carriers wide n))) o false)) (sym f) (and_from _ _ (w.stays l.column g.0) second)

all_covered : (cat wide : Catalogue) (n : ℕ) (t u : Table) (ls : List Leaf) → IsFineTable t → table_numbered cat n ≡ Some t → table_numbered wide n ≡ Some u → Widens t u → IsTrue (is_covered cat n ls) → IsTrue (is_covered wide n ls)
all_covered cat wide n t u [] fine e f w c = refl
all_covered cat wide n t u (l ∷ ls) fine e f w c = let p = and_parts (leaf_covered cat n l) (is_covered cat n ls) c in and_from _ _ (covered_by cat wide n t u l fine e f w p.0) (all_covered cat wide n t u ls fine e f w p.1)

key_stays : (t u : Table) (key : List ℕ) → Widens t u → IsKeyBytes t key → IsKeyBytes u key
key_stays t u key w h = (h.0, ap (λ ks. is_key_of (key_kinds ks) h.0) w.key ∙ h.1, h.2 ∙ ap (λ (n : ℕ). key_bytes n h.0) (sym w.number))

-- a delta's part of a table stays lawful
pub table_stays : (cat wide : Catalogue) (d : TableDelta) → Grew cat wide → IsLawfulTable cat d → IsLawfulTable wide d
table_stays cat wide d g h = let u = g.tables d.table h.table h.known in record {
  table = u.0;
  known = u.1;
  layout = h.layout;
  covered = all_covered cat wide d.table h.table u.0 d.layout (fine_table cat d.table h.table g.lawful h.known) h.known u.1 u.2 h.covered;
  versions = h.versions;
  keys = all_map (λ v. IsKeyBytes h.table v.key) (λ v. IsKeyBytes u.0 v.key) (versions_in d) (λ v k. key_stays h.table u.0 v.key u.2 k) h.keys;
  bundles = h.bundles;
}

pub delta_stays : (cat wide : Catalogue) (d : Delta) → Grew cat wide → AreLawfulTables cat d → AreLawfulTables wide d
delta_stays cat wide d g h = (h.0, all_map (IsLawfulTable cat) (IsLawfulTable wide) d.tables (λ t k. table_stays cat wide t g k) h.1)

-- ---- a delta's versions go over

same_truths : (a b : Bool) → same_truth a b ≡ true → a ≡ b
same_truths true b h = sym h
same_truths false true h = h
same_truths false false h = refl

pub lawful_fit : (ls : List Leaf) (cells : List Cell) → IsTrue (are_lawful ls cells) → AreFit (with_cells ls cells)
lawful_fit ls cells h =
    let both = with_cells ls cells in
    let p = and_parts ((length ls == length cells) && list_all (λ c. suits c.0 c.1) both) (list_all (λ a. list_all (agree a) both) both) h in
    let q = and_parts (length ls == length cells) (list_all (λ c. suits c.0 c.1) both) p.0 in
    let fit = all_tests (λ (c : Leaf × Cell). suits c.0 c.1) both q.1 in
    let alike = all_tests (λ (a : Leaf × Cell). list_all (agree a) both) both p.1 in record {
      agree = λ a b i j k.
          let e = all_at (λ b. IsTrue (agree a b)) both b (all_tests (agree a) both (all_at (λ a. IsTrue (list_all (agree a) both)) both a alike i)) j in
          same_truths (is_unset a.1) (is_unset b.1) (only_right (a.0.column == b.0.column) (same_truth (is_unset a.1) (is_unset b.1)) (eq-eqb a.0.column b.0.column k) (and_parts (not (a.0.column == b.0.column) || same_truth (is_unset a.1) (is_unset b.1)) _ e).0);
      ranks = λ a i. suits_rank a.0.column a.0.path a.0.rank a.0.presence a.1 (all_at (λ c. IsTrue (suits c.0 c.1)) both a fit i);
    }

pub in_layout : (ls : List Leaf) (cells : List Cell) (a : Leaf × Cell) → Contains (with_cells ls cells) a → Contains ls a.0
in_layout [] cells a h = absurd (omega (arith, h.1))
in_layout (l ∷ ls) [] a h = absurd (omega (arith, h.1))
in_layout (l ∷ ls) (c ∷ cells) a (zero, n, e) = (zero, omega arith, ap (λ (x : Leaf × Cell). x.0) e)
in_layout (l ∷ ls) (c ∷ cells) a (suc k, n, e) = let r = in_layout ls cells a (k, omega (arith, n), e) in (suc r.0, omega (arith, r.1), r.2)

-- a leaf of the wider carriers is served by the older ones
pub served : (cat : Catalogue) (n : ℕ) (t u : Table) (from : List Leaf) (cells : List Cell) (b : Leaf) → IsFineTable t → table_numbered cat n ≡ Some t → Widens t u → IsTrue (is_covered cat n from) → leaf_in (cols u) b.column b.path ≡ Some (b.rank, b.presence) → IsServed (with_cells from cells) (cols t) b
served cat n t u from cells b fine e w c m =
    let k : t.number ≡ n = its_number cat n t e in
    let l = leaf_in_cols u b m in (
      (λ a i q.
          let one : IsTrue (leaf_covered cat t.number a.0) = subst (λ (i : ℕ). IsTrue (leaf_covered cat i a.0)) (sym k) (all_at (λ x. IsTrue (leaf_covered cat n x)) from a.0 (all_tests (leaf_covered cat n) from c) (in_layout from cells a i)) in
          let g = covered_wide cat t a.0 (ap (table_numbered cat) k ∙ e) fine one in
          g.1 (w.live a.0.column g.0 (ap (column_live u) q ∙ l.live))),
      (λ y f.
          let x = place_up t u b.column b.path y w l.live f in
          let d : Some x.0 ≡ Some (b.rank, b.presence) = sym x.1 ∙ m in
          let z : x.0 ≡ (b.rank, b.presence) = cc in
          let same_presence : y.1 ≡ b.presence = sym x.3 ∙ ap (λ (v : Mark). v.1) z in
          let j = kind_of_leaf t b.column b.path y (kind_for (cols t) b.column) refl f in (
            same_presence,
            (λ p. (presence_bool b.path l.kind (b.rank, b.presence) l.mark p, presence_bool b.path j.0.1 y j.2 (same_presence ∙ p))),
          )),
    )

cells_go : (cat wide : Catalogue) (n : ℕ) (t u : Table) (from : List Leaf) (cells : List Cell) → IsFineTable t → IsFineTable u → table_numbered cat n ≡ Some t → table_numbered wide n ≡ Some u → Widens t u → IsTrue (is_covered cat n from) → IsTrue (are_lawful from cells)
    → coerce from (carriers wide n) cells ≡ coerce (carriers cat n) (carriers wide n) (coerce from (carriers cat n) cells)
cells_go cat wide n t u from cells ft fu e f w c l =
    let old = known_carriers cat n t e in
    let new = known_carriers wide n u f in
    let marks = all_marked (cols u) (are_columns u fu) in
    ap (λ (ls : List Leaf). coerce from ls cells) new
    ∙ sym (coerce_twice from (layout_of (cols u)) (cols t) cells (lawful_fit from cells l) (are_columns t ft) (all_map (IsMarked (cols u)) (IsServed (with_cells from cells) (cols t)) (layout_of (cols u)) (λ b m. served cat n t u from cells b ft e w c m) marks))
    ∙ ap₂ (λ (a b : List Leaf). coerce a b (coerce from a cells)) (sym old) (sym new)

versions_go : (cat wide : Catalogue) (n : ℕ) (t u : Table) (from : List Leaf) (vs : List RowVersion) → IsFineTable t → IsFineTable u → table_numbered cat n ≡ Some t → table_numbered wide n ≡ Some u → Widens t u → IsTrue (is_covered cat n from)
    → AllByRecursion (λ v. IsTrue (is_version from v)) vs → coerce_all from (carriers wide n) vs ≡ coerce_all (carriers cat n) (carriers wide n) (coerce_all from (carriers cat n) vs)
versions_go cat wide n t u from [] ft fu e f w c a = refl
versions_go cat wide n t u from (v ∷ vs) ft fu e f w c a =
    let l : IsTrue (are_lawful from v.cells) = right _ (are_lawful from v.cells) (left _ _ a.0) in
    ap₂ (λ (cells : List Cell) (rest : List RowVersion). record v { cells = cells } ∷ rest) (cells_go cat wide n t u from v.cells ft fu e f w c l) (versions_go cat wide n t u from vs ft fu e f w c a.1)

delta_goes_by : (cat wide : Catalogue) (n : ℕ) (x : Delta) (o : Option TableDelta) → table_of x n ≡ o → Grew cat wide → AreLawfulTables cat x
    → option_map_or (λ t. coerce_all t.layout (carriers wide n) (versions_in t)) o [] ≡ coerce_all (carriers cat n) (carriers wide n) (option_map_or (λ t. coerce_all t.layout (carriers cat n) (versions_in t)) o [])
delta_goes_by cat wide n x None e g a = refl
delta_goes_by cat wide n x (Some d) e g a =
    let h = find_held (λ t. t.table == n) x.tables d e in
    let k : d.table ≡ n = eqb-true d.table n h.1 in
    let l = all_at (IsLawfulTable cat) x.tables d a.1 h.0 in
    let known : table_numbered cat n ≡ Some l.table = ap (table_numbered cat) (sym k) ∙ l.known in
    let u = g.tables n l.table known in
    versions_go cat wide n l.table u.0 d.layout (versions_in d) (fine_table cat n l.table g.lawful known) (fine_table wide n u.0 g.after u.1) known u.1 u.2 (subst (λ (i : ℕ). IsTrue (is_covered cat i d.layout)) k l.covered) l.versions.each

-- a lawful delta's versions, under the wider carriers
pub delta_goes : (cat wide : Catalogue) (n : ℕ) (x : Delta) → Grew cat wide → AreLawfulTables cat x → carried_versions wide n x ≡ coerce_all (carriers cat n) (carriers wide n) (carried_versions cat n x)
delta_goes cat wide n x g a = delta_goes_by cat wide n x (table_of x n) refl g a

pub deltas_go : (cat wide : Catalogue) (n : ℕ) (xs : List Delta) → Grew cat wide → AllByRecursion (AreLawfulTables cat) xs → map (carried_versions wide n) xs ≡ map (coerce_all (carriers cat n) (carriers wide n)) (map (carried_versions cat n) xs)
deltas_go cat wide n [] g a = refl
deltas_go cat wide n (x ∷ xs) g a = ap₂ (λ (v : List RowVersion) (vs : List (List RowVersion)). v ∷ vs) (delta_goes cat wide n x g a.0) (deltas_go cat wide n xs g a.1)

-- the deltas that ids name are the shelf's
pub named_lawful : (cat : Catalogue) (shelf : List Delta) (ids : List ℕ) → AllByRecursion (AreLawfulTables cat) shelf → AllByRecursion (AreLawfulTables cat) (deltas_of shelf ids)
named_lawful cat shelf ids a = all_from (AreLawfulTables cat) (deltas_of shelf ids) (λ x h. let m = from_filter_map (delta_with shelf) ids x h in all_at (AreLawfulTables cat) shelf x a (find_held (λ y. y.id == m.0) shelf x m.2).0)

-- what deltas hold in a range, merged, goes over to the wider carriers
pub merged_goes : (cat wide : Catalogue) (shelf : List Delta) (ids : List ℕ) (r : Range) (n : ℕ) → Grew cat wide → AllByRecursion (AreLawfulTables cat) shelf
    → merged_in wide shelf ids r n ≡ coerce_all (carriers cat n) (carriers wide n) (merged_in cat shelf ids r n)
merged_goes cat wide shelf ids r n g a =
    let xs = deltas_of shelf ids in
    ap (λ (lists : List (List RowVersion)). clip r (merge lists)) (deltas_go cat wide n xs g (named_lawful cat shelf ids a))
    ∙ ap (clip r) (sym (coerce-merge (carriers cat n) (carriers wide n) (map (carried_versions cat n) xs)))
    ∙ sym (coerce-clip (carriers cat n) (carriers wide n) r (merge (map (carried_versions cat n) xs)))
