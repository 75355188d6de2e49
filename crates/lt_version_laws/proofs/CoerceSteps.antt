-- Cells and lists that go over to other leaves.
use Rattle.std.proofs.Common.{Bool, List, [], ap, ap₂, arith, cond, eqb-true, false, length, refl, subst, suc, sym, take, true, zero, ℕ, ◌∙◌, ◌∷◌, ◌≡◌}
use Rattle.std.specs.Prelude.{Contains, IsTrue, None, Option, Some, filter, find, not, slice_get, ◌&&◌, ◌==◌, ◌||◌}
use Rattle.std.specs.List.{AllByRecursion, list_any}
use Rattle.std.specs.Option.{option_map_or}
use Rattle.std.proofs.lemmas.Bool.{and_from}
use Rattle.lt_terms.specs.Layout.{Cell, Leaf, are_lawful, bool_cell, cell_to, coerce, is_unset, lacking, layout_of, null_cell, same_leaf, sets, suits, unset, with_cells}
use Rattle.lt_terms.specs.Log.{Change}
use Rattle.lt_tables.specs.Pump.{is_deliverable}
use Rattle.lt_tables.specs.Schema.{Catalogue, IsCatalogue, carriers}
use Rattle.lt_storage.specs.Store.{IsLawfulTable, TableDelta}
use Rattle.lt_tables.specs.Version.{AreVersions, RowVersion, coerce_all, coerced, is_version, seen}
use Rattle.lt_laws.proofs.SeenLaws.{to_own}
use Rattle.lt_laws.proofs.CoerceLaws.{IsServed, coerce_length, suits_rank}
use Rattle.lt_laws.proofs.ClipLaws.{coerce-ordered}
use Rattle.lt_laws.proofs.CollapseLaws.{goes_made, made_version}
use Rattle.lt_laws.proofs.TableGrowth.{are_columns, cols, layout_columns}
use Rattle.lt_laws.proofs.LeafLaws.{IsMarked}
use Rattle.lt_codecs.proofs.ListFacts.{all_map, all_to_map}
use Rattle.lt_lemmas.proofs.ListFacts.{all_filter, all_from}
use Rattle.lt_laws.proofs.ScanLaws.{any_of}
use Rattle.lt_lemmas.proofs.TableLaws.{fine_table}
use Rattle.lt_laws.proofs.VersionGrowth.{widens_itself}
use Rattle.lt_laws.proofs.WidenedStore.{known_carriers, lawful_fit, served}
use Rattle.lt_version_laws.specs.Logged.{logged_layout}
use Rattle.lt_version_laws.specs.Coercions.{CoerceSteps, HasNoPlace, IsPlaceOf, lacking_by}
use Rattle.lt_version_laws.specs.MemoryLists.{AreLogged, carried_rows, logged_rows}
use Rattle.lt_version_laws.proofs.MemoryGroups.{group_carried, memory_group, passing}
use Rattle.lt_version_laws.proofs.LoggedVersions.{seen_is_lawful}

-- ---- places

found_at : (from : List Leaf) (leaf : Leaf) (cells : List Cell) (i : ℕ) (l : Leaf) (c : Cell) → slice_get from i ≡ Some l → same_leaf l leaf ≡ true → AllByRecursion (λ k. same_leaf k leaf ≡ false) (take i from) → slice_get cells i ≡ Some c
    → length cells ≡ length from → find (λ (x : Leaf × Cell). same_leaf x.0 leaf) (with_cells from cells) ≡ Some (l, c)
found_at [] leaf cells i l c e s a d n = cc
found_at (k ∷ from) leaf [] i l c e s a d n = cc
found_at (k ∷ from) leaf (x ∷ cells) zero l c e s a d n =
    let f : k ≡ l = cc in
    let g : x ≡ c = cc in
    ap (λ (b : Bool). cond b (Some (k, x)) (find (λ (y : Leaf × Cell). same_leaf y.0 leaf) (with_cells from cells))) (ap (λ (y : Leaf). same_leaf y leaf) f ∙ s) ∙ ap₂ (λ (y : Leaf) (z : Cell). Some (y, z)) f g
found_at (k ∷ from) leaf (x ∷ cells) (suc i) l c e s a d n =
    ap (λ (b : Bool). cond b (Some (k, x)) (find (λ (y : Leaf × Cell). same_leaf y.0 leaf) (with_cells from cells))) a.0 ∙ found_at from leaf cells i l c e s a.1 d (omega (arith, n))

none_at : (from : List Leaf) (leaf : Leaf) (cells : List Cell) → HasNoPlace from leaf → find (λ (x : Leaf × Cell). same_leaf x.0 leaf) (with_cells from cells) ≡ None
none_at [] leaf cells a = refl
none_at (k ∷ from) leaf [] a = refl
none_at (k ∷ from) leaf (x ∷ cells) a = ap (λ (b : Bool). cond b (Some (k, x)) (find (λ (y : Leaf × Cell). same_leaf y.0 leaf) (with_cells from cells))) a.0 ∙ none_at from leaf cells a.1

pub coerce_leaf : (from : List Leaf) (leaf : Leaf) (to : List Leaf) (cells : List Cell) (i : ℕ) (l : Leaf) (c : Cell) → IsPlaceOf from leaf i l → slice_get cells i ≡ Some c → length cells ≡ length from
    → coerce from (leaf ∷ to) cells ≡ cell_to l.rank leaf.rank c ∷ coerce from to cells
unfolding coerce
coerce_leaf from leaf to cells i l c p d n = ap (λ (o : Option (Leaf × Cell)). option_map_or (λ (x : Leaf × Cell). cell_to x.0.rank leaf.rank x.1) o (lacking leaf (with_cells from cells)) ∷ coerce from to cells) (found_at from leaf cells i l c p.stands p.same p.none_before d n)

pub coerce_lacks : (from : List Leaf) (leaf : Leaf) (to : List Leaf) (cells : List Cell) → HasNoPlace from leaf → coerce from (leaf ∷ to) cells ≡ lacking leaf (with_cells from cells) ∷ coerce from to cells
unfolding coerce
coerce_lacks from leaf to cells a = ap (λ (o : Option (Leaf × Cell)). option_map_or (λ (x : Leaf × Cell). cell_to x.0.rank leaf.rank x.1) o (lacking leaf (with_cells from cells)) ∷ coerce from to cells) (none_at from leaf cells a)

pub coerce_ends : (from : List Leaf) (cells : List Cell) → coerce from [] cells ≡ []
unfolding coerce
coerce_ends from cells = refl

-- ---- a cell at its own rank

pub cell_stays : (leaf : Leaf) (c : Cell) → IsTrue (suits leaf c) → cell_to leaf.rank leaf.rank c ≡ c
cell_stays leaf c h = to_own leaf.rank c (suits_rank leaf.column leaf.path leaf.rank leaf.presence c h)

-- ---- what is lacking

held_at : (from : List Leaf) (cells : List Cell) (i : ℕ) (l : Leaf) (c : Cell) → slice_get from i ≡ Some l → slice_get cells i ≡ Some c → Contains (with_cells from cells) (l, c)
held_at [] cells i l c e d = cc
held_at (k ∷ from) [] i l c e d = cc
held_at (k ∷ from) (x ∷ cells) zero l c e d = let f : k ≡ l = cc in let g : x ≡ c = cc in (zero, omega arith, ap₂ (λ (y : Leaf) (z : Cell). let p : Leaf × Cell = (y, z) in p) f g)
held_at (k ∷ from) (x ∷ cells) (suc i) l c e d = let h = held_at from cells i l c e d in (suc h.0, omega (arith, h.1), h.2)

any_false : (test : Leaf × Cell → Bool) (xs : List (Leaf × Cell)) → AllByRecursion (λ x. test x ≡ false) xs → list_any test xs ≡ false
any_false test [] a = refl
any_false test (x ∷ xs) a = ap₂ (λ (p q : Bool). p || q) a.0 (any_false test xs a.1)

column_told : (from : List Leaf) (leaf l : Leaf) (cells : List Cell) (i : ℕ) (c : Cell) (u : Bool) → is_unset c ≡ u → IsTrue (are_lawful from cells) → slice_get from i ≡ Some l → (l.column == leaf.column) ≡ true → slice_get cells i ≡ Some c
    → sets leaf.column (with_cells from cells) ≡ not u
column_told from leaf l cells i c false e h s k d = any_of (λ (x : Leaf × Cell). (x.0.column == leaf.column) && not (is_unset x.1)) (with_cells from cells) (l, c) (held_at from cells i l c s d) (and_from _ _ k (ap not e))
column_told from leaf l cells i c true e h s k d = any_false (λ (x : Leaf × Cell). (x.0.column == leaf.column) && not (is_unset x.1)) (with_cells from cells) (all_from (λ (x : Leaf × Cell). ((x.0.column == leaf.column) && not (is_unset x.1)) ≡ false) (with_cells from cells) one)
  where
    one : (x : Leaf × Cell) → Contains (with_cells from cells) x → ((x.0.column == leaf.column) && not (is_unset x.1)) ≡ false
    one x j = by_column (x.0.column == leaf.column) refl
      where
        by_column : (b : Bool) → (x.0.column == leaf.column) ≡ b → (b && not (is_unset x.1)) ≡ false
        by_column true f = ap not ((lawful_fit from cells h).agree x (l, c) j (held_at from cells i l c s d) (eqb-true x.0.column leaf.column f ∙ sym (eqb-true l.column leaf.column k)) ∙ e)
        by_column false f = refl

lacking_as : (leaf : Leaf) (xs : List (Leaf × Cell)) (u : Bool) → sets leaf.column xs ≡ not u → lacking leaf xs ≡ cond u unset (cond leaf.presence (bool_cell false) null_cell)
lacking_as leaf xs true e = ap (λ (b : Bool). cond b (cond leaf.presence (bool_cell false) null_cell) unset) e
lacking_as leaf xs false e = ap (λ (b : Bool). cond b (cond leaf.presence (bool_cell false) null_cell) unset) e

pub lacking_told : (from : List Leaf) (leaf l : Leaf) (cells : List Cell) (i : ℕ) (c : Cell) → IsTrue (are_lawful from cells) → slice_get from i ≡ Some l → (l.column == leaf.column) ≡ true → slice_get cells i ≡ Some c
    → lacking leaf (with_cells from cells) ≡ lacking_by leaf c
lacking_told from leaf l cells i c h s k d = lacking_as leaf (with_cells from cells) (is_unset c) (column_told from leaf l cells i c (is_unset c) refl h s k d)

none_sets : (from : List Leaf) (n : ℕ) (cells : List Cell) → AllByRecursion (λ (k : Leaf). (k.column == n) ≡ false) from → sets n (with_cells from cells) ≡ false
none_sets [] n cells a = refl
none_sets (k ∷ from) n [] a = refl
none_sets (k ∷ from) n (x ∷ cells) a = ap₂ (λ (p q : Bool). (p && not (is_unset x)) || q) a.0 (none_sets from n cells a.1)

pub lacking_untold : (from : List Leaf) (leaf : Leaf) (cells : List Cell) → AllByRecursion (λ k. (k.column == leaf.column) ≡ false) from → lacking leaf (with_cells from cells) ≡ unset
lacking_untold from leaf cells a = lacking_as leaf (with_cells from cells) true (none_sets from leaf.column cells a)

-- ---- lists at the carriers

one_goes : (cat : Catalogue) (d : TableDelta) (v : RowVersion) → IsCatalogue cat → IsLawfulTable cat d → IsTrue (is_version d.layout v) → IsTrue (is_version (carriers cat d.table) (coerced d.layout (carriers cat d.table) v))
one_goes cat d v is l h =
    let t = l.table in
    let fine = fine_table cat d.table t is l.known in
    let columns = layout_columns d.layout l.layout in
    let serve : (b : Leaf) → IsMarked (cols t) b → IsServed (with_cells (layout_of l.layout.0) v.cells) (cols t) b
    = λ b m. subst (λ (ls : List Leaf). IsServed (with_cells ls v.cells) (cols t) b) l.layout.1 (served cat d.table t t d.layout v.cells b fine l.known (widens_itself t) l.covered m) in
    let lawful : IsTrue (is_version (layout_of l.layout.0) v) = subst (λ (ls : List Leaf). IsTrue (is_version ls v)) l.layout.1 h in
    let made = made_version (layout_of (cols t)) (coerced (layout_of l.layout.0) (layout_of (cols t)) v) (goes_made l.layout.0 (cols t) v columns (are_columns t fine) serve lawful) in
    subst (λ (to : List Leaf). IsTrue (is_version to (coerced d.layout to v))) (sym (known_carriers cat d.table t l.known)) (subst (λ (ls : List Leaf). IsTrue (is_version (layout_of (cols t)) (coerced ls (layout_of (cols t)) v))) (sym l.layout.1) made)

pub table_goes : (cat : Catalogue) (d : TableDelta) (vs : List RowVersion) → IsCatalogue cat → IsLawfulTable cat d → AreVersions d.layout vs → AreVersions (carriers cat d.table) (coerce_all d.layout (carriers cat d.table) vs)
table_goes cat d vs is l a = record {
  ordered = coerce-ordered d.layout (carriers cat d.table) vs ∙ a.ordered;
  each = all_to_map (λ v. IsTrue (is_version (carriers cat d.table) v)) (coerced d.layout (carriers cat d.table)) vs (all_map (λ v. IsTrue (is_version d.layout v)) (λ v. IsTrue (is_version (carriers cat d.table) (coerced d.layout (carriers cat d.table) v))) vs (λ v h. one_goes cat d v is l h) a.each);
}

pub group_goes : (cat : Catalogue) (cs : List Change) (table version : ℕ) → IsCatalogue cat → AreLogged cat cs → AreVersions (carriers cat table) (carried_rows cat cs table version)
group_goes cat cs table version is a = record {
  ordered = coerce-ordered (logged_layout cat table version) (carriers cat table) (logged_rows cat cs table version) ∙ (memory_group cat cs table version is a).ordered;
  each = subst (AllByRecursion (λ v. IsTrue (is_version (carriers cat table) v))) (sym (group_carried cat cs table version is a))
      (all_to_map (λ v. IsTrue (is_version (carriers cat table) v)) (seen cat) (filter (λ c. c.version == version) (filter (λ c. c.table == table) cs))
      (all_filter (λ c. IsTrue (is_version (carriers cat table) (seen cat c))) (λ c. c.version == version) (filter (λ c. c.table == table) cs)
      (passing (λ c. IsTrue (is_deliverable cat c)) (λ c. IsTrue (is_version (carriers cat table) (seen cat c))) (λ c. c.table == table) cs a.each
      (λ c h e. subst (λ (n : ℕ). IsTrue (is_version (carriers cat n) (seen cat c))) (eqb-true c.table table e) (seen_is_lawful cat c is h)))));
}

pub coerce_steps : CoerceSteps
coerce_steps = record {
  leaf = coerce_leaf;
  lacks = coerce_lacks;
  ends = coerce_ends;
  long = coerce_length;
  stays = cell_stays;
  told = lacking_told;
  untold = lacking_untold;
  of_table = table_goes;
  of_group = group_goes;
}
