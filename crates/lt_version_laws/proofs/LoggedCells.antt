-- What a change sets, in cells under its own version's layout: they are lawful there, and go over to the carriers.
use Rattle.std.proofs.Common.{Bool, List, [], ap, ap₂, cond, eq-eqb, eqb-true, false, refl, subst, sym, true, ℕ, ◌∙◌, ◌∷◌, ◌≡◌}
use Rattle.std.specs.Prelude.{Contains, IsTrue, None, Option, Some, find, map, not, option_and_then, option_map, ◌&&◌, ◌==◌}
use Rattle.std.specs.List.{AllByRecursion}
use Rattle.std.specs.Option.{option_map_or}
use Rattle.std.proofs.lemmas.Bool.{and_from, and_parts, false≢true}
use Rattle.lt_terms.specs.declared.Rank.{Rank}
use Rattle.lt_terms.specs.Value.{Fields, Value, bool_value, bytes_value, field_value, int_value, no_fields, null_value, rises_above, struct_value, text_value, value_at}
use Rattle.lt_terms.specs.Kind.{FieldKinds, Kind, enumeration, field_kind, has_shape, have_shapes, kind_at, no_kinds, plain, structured}
use Rattle.lt_terms.specs.Conversion.{at_rank, conv}
use Rattle.lt_terms.specs.Layout.{Cell, Leaf, bool_cell, cell_of, cell_to, coerce, field_of, flatten, is_structure, is_unset, lacking, layout_of, leaf_cell, null_cell, same_leaf, setting, sets, suits, unset, value_along}
use Rattle.lt_machine.specs.Laws.{lies_within}
use Rattle.lt_tables.specs.Schema.{Column, Registered, Table, clash, column_numbered, registered}
use Rattle.lt_laws.proofs.CarrierLaws.{clash_at, shape_within}
use Rattle.lt_laws.proofs.CoerceLaws.{Cells, beside, cell_as, cell_for, cell_set, found_beside, map_same, sets_at, with_own}
use Rattle.lt_lemmas.proofs.ConversionLemmas.{is_rising}
use Rattle.lt_laws.proofs.FlattenLemmas.{cell_back}
use Rattle.lt_laws.proofs.LeafLaws.{AreColumns, IsMarked, Mark, all_marked, found_leaf, leaf_at, leaf_found, leaf_in, leaf_in_layout, leaf_is, leaf_of, mark_of}
use Rattle.lt_codecs.proofs.ListFacts.{all_map, all_to_map}
use Rattle.lt_lemmas.proofs.ListFacts.{find_held}
use Rattle.lt_laws.proofs.ListFacts.{all_at, in_map}
use Rattle.lt_laws.proofs.ReadLaws.{shape_at}
use Rattle.lt_laws.proofs.ScanLaws.{any_of}
use Rattle.lt_laws.proofs.ScanLemmas.{at_carrier, kind_for, leaf_cell-set, setting-map}
use Rattle.lt_laws.proofs.SeenLaws.{AreLaid, laid_agrees, suits_plain}
use Rattle.lt_laws.proofs.TableGrowth.{LeafOf, are_columns, cell_in, cols, leaf_in_cols, set_at, setting_held, unset_by}
use Rattle.lt_lemmas.proofs.TableLaws.{FineColumns, IsFineKind, IsFineTable}
use Rattle.lt_laws.proofs.TableLaws.{carrier_takes}
use Rattle.lt_laws.proofs.WidenLaws.{along, bool_to, cell_lacks, lies_along, lies_shape, next_kind, presence_bool}
use Rattle.lt_terms.specs.declared.Rank.TheVariants as rank
use Rattle.lt_laws.proofs.ConversionLemmas.{shape_of_number}

-- ---- a value of a kind's shape, along a path

field_by : (b : Bool) (v w : Value) (l k : Kind) (o : Option Kind) → cond b (Some l) o ≡ Some k → IsTrue (has_shape v l) → (o ≡ Some k → IsTrue (has_shape w k)) → IsTrue (has_shape (cond b v w) k)
field_by true v w l k o e h f = let d : l ≡ k = cc in subst (λ (x : Kind). IsTrue (has_shape v x)) d h
field_by false v w l k o e h f = f e

fields_shaped : (n : ℕ) (fs : Fields) (ks : FieldKinds) (k : Kind) → kind_at n ks ≡ Some k → IsTrue (have_shapes fs ks) → IsTrue (has_shape (value_at n fs) k)
fields_shaped n no_fields ks k e h = refl
fields_shaped n (field_value m v fs) no_kinds k e h = absurd (false≢true h)
fields_shaped n (field_value m v fs) (field_kind j name l ks) k e h =
    let p = and_parts (m == j && has_shape v l) (have_shapes fs ks) h in
    let q = and_parts (m == j) (has_shape v l) p.0 in
    subst (λ (i : ℕ). IsTrue (has_shape (cond (n == i) v (value_at n fs)) k)) (sym (eqb-true m j q.0)) (field_by (n == j) v (value_at n fs) l k (kind_at n ks) e q.1 (λ d. fields_shaped n fs ks k d p.1))

field_shaped : (n : ℕ) (v : Value) (ks : FieldKinds) (k : Kind) → kind_at n ks ≡ Some k → IsTrue (has_shape v (structured ks)) → IsTrue (has_shape (field_of n v) k)
field_shaped n null_value ks k e h = refl
field_shaped n (bool_value b) ks k e h = absurd (false≢true h)
field_shaped n (int_value z) ks k e h = absurd (false≢true h)
field_shaped n (text_value t) ks k e h = absurd (false≢true h)
field_shaped n (bytes_value t) ks k e h = absurd (false≢true h)
field_shaped n (struct_value fs) ks k e h = fields_shaped n fs ks k e h

-- at a leaf that is no presence leaf stands a value of the leaf's rank
shape_along : (q : List ℕ) (k : Kind) (m : Mark) (v : Value) → leaf_of k q ≡ Some m → m.1 ≡ false → IsTrue (has_shape v k) → IsTrue (has_shape (value_along q v) (plain m.0))
shape_along [] (plain r) m v e p h = let d : (r, false) ≡ m = cc in subst (λ (x : Mark). IsTrue (has_shape v (plain x.0))) d h
shape_along [] (enumeration names) m v e p h = let d : (rank.Int32, false) ≡ m = cc in subst (λ (x : Mark). IsTrue (has_shape v (plain x.0))) d (shape_of_number v names h)
shape_along [] (structured ks) m v e p h = let d : (rank.Bool, true) ≡ m = cc in absurd (false≢true (sym p ∙ ap (λ (x : Mark). x.1) (sym d)))
shape_along (n ∷ q) (plain r) m v e p h = cc
shape_along (n ∷ q) (enumeration names) m v e p h = cc
shape_along (n ∷ q) (structured ks) m v e p h = let k = next_kind q m (kind_at n ks) e in shape_along q k.0 m (field_of n v) k.2 p (field_shaped n v ks k.0 k.1 h)

-- ---- kinds that do not clash have the same presence at each path that both have

root_alike : (k c : Kind) → clash k c ≡ false → (mark_of k).1 ≡ (mark_of c).1
root_alike (plain r) (plain s) h = refl
root_alike (plain r) (enumeration names) h = refl
root_alike (plain r) (structured ks) h = absurd (false≢true (sym h))
root_alike (enumeration names) (plain s) h = refl
root_alike (enumeration names) (enumeration others) h = refl
root_alike (enumeration names) (structured ks) h = absurd (false≢true (sym h))
root_alike (structured ks) (plain s) h = absurd (false≢true (sym h))
root_alike (structured ks) (enumeration names) h = absurd (false≢true (sym h))
root_alike (structured ks) (structured ls) h = refl

same_presence : (q : List ℕ) (k c : Kind) (m n : Mark) → clash k c ≡ false → leaf_of k q ≡ Some m → leaf_of c q ≡ Some n → m.1 ≡ n.1
same_presence [] k c m n h e d = let x : mark_of k ≡ m = cc in let y : mark_of c ≡ n = cc in ap (λ (z : Mark). z.1) (sym x) ∙ root_alike k c h ∙ ap (λ (z : Mark). z.1) y
same_presence (i ∷ q) k (plain r) m n h e d = cc
same_presence (i ∷ q) k (enumeration names) m n h e d = cc
same_presence (i ∷ q) (plain r) (structured ls) m n h e d = cc
same_presence (i ∷ q) (enumeration names) (structured ls) m n h e d = cc
same_presence (i ∷ q) (structured ks) (structured ls) m n h e d =
    let k = next_kind q m (kind_at i ks) e in
    let c = next_kind q n (kind_at i ls) d in
    same_presence q k.0 c.0 m n (clash_at ks ls h i c.0 k.0 c.1 k.1) k.2 c.2

-- ---- a cell of the version, at the carriers

cell_goes_plain : (a b : Rank) (w : Value) → IsTrue (has_shape w (plain a)) → cell_to a b (cell_of w) ≡ cell_of (at_rank b w)
cell_goes_plain a b w h = cell_as a b (cell_of w) (cell_set w) ∙ ap (λ (x : Value). cell_of (at_rank b x)) (cell_back a w h)

abbrev shown : Bool → Value → Cell
shown p w = cond p (bool_cell (is_structure w)) (cell_of w)

goes_by : (q : List ℕ) (c k : Kind) (v : Value) (m n : Mark) (s t : Bool) → m.1 ≡ s → n.1 ≡ t → s ≡ t → leaf_of c q ≡ Some m → leaf_of k q ≡ Some n → IsTrue (has_shape v c)
    → cell_to m.0 n.0 (shown s (value_along q v)) ≡ shown t (value_along q (conv v k))
goes_by q c k v m n true true f g h e d i = ap₂ (λ (x y : Rank). cell_to x y (bool_cell (is_structure (value_along q v)))) (presence_bool q c m e f) (presence_bool q k n d g)
    ∙ bool_to (is_structure (value_along q v)) ∙ ap bool_cell (sym ((along q k n v d).present g))
goes_by q c k v m n false false f g h e d i = cell_goes_plain m.0 n.0 (value_along q v) (shape_along q c m v e f i) ∙ ap cell_of (sym ((along q k n v d).plainly g))
goes_by q c k v m n true false f g h e d i = absurd (false≢true (sym h))
goes_by q c k v m n false true f g h e d i = absurd (false≢true h)

leaf_goes : (c k : Kind) (v : Value) (a b : Leaf) → clash k c ≡ false → IsTrue (has_shape v c) → leaf_of c b.path ≡ Some (a.rank, a.presence) → leaf_of k b.path ≡ Some (b.rank, b.presence) → a.path ≡ b.path
    → cell_to a.rank b.rank (leaf_cell a v) ≡ leaf_cell b (conv v k)
leaf_goes c k v a b h i e d p = ap (λ (q : List ℕ). cell_to a.rank b.rank (shown a.presence (value_along q v))) p
    ∙ goes_by b.path c k v (a.rank, a.presence) (b.rank, b.presence) a.presence b.presence refl refl (sym (same_presence b.path k c (b.rank, b.presence) (a.rank, a.presence) h d e)) e d i

-- ---- the columns of a version

abbrev pub columns_of : Registered → List (ℕ × Kind)
columns_of r = map (λ c. (c.number, c.kind)) r.columns

numbers_same : (cs : List Column) → map (λ (x : ℕ × Kind). x.0) (map (λ c. (c.number, c.kind)) cs) ≡ map (λ c. c.number) cs
numbers_same [] = refl
numbers_same (c ∷ cs) = ap (λ (ns : List ℕ). c.number ∷ ns) (numbers_same cs)

pub version_columns_are : (r : Registered) → FineColumns r → AreColumns (columns_of r)
version_columns_are r f = record {
  rise = subst (λ (ns : List ℕ). IsTrue (rises_above 0 ns)) (sym (numbers_same r.columns)) f.rise;
  kinds = all_to_map (λ (x : ℕ × Kind). IsTrue (is_rising x.1)) (λ c. (c.number, c.kind)) r.columns (all_map (λ c. IsFineKind c.kind) (λ c. IsTrue (is_rising c.kind)) r.columns (λ c h. h.0) f.kinds);
}

kind_of_column_by : (n : ℕ) (c : Column) (b : Bool) (o : Option Column) (p : Option (ℕ × Kind)) → p ≡ option_map (λ c. (c.number, c.kind)) o → cond b (Some (c.number, c.kind)) p ≡ option_map (λ c. (c.number, c.kind)) (cond b (Some c) o)
kind_of_column_by n c true o p e = refl
kind_of_column_by n c false o p e = e

pub kind_of_column : (n : ℕ) (cs : List Column) → kind_for (map (λ c. (c.number, c.kind)) cs) n ≡ option_map (λ c. (c.number, c.kind)) (column_numbered cs n)
kind_of_column n [] = refl
kind_of_column n (c ∷ cs) = kind_of_column_by n c (c.number == n) (column_numbered cs n) (kind_for (map (λ c. (c.number, c.kind)) cs) n) (kind_of_column n cs)

leaf_in_column : (r : Registered) (n : ℕ) (q : List ℕ) (c : Column) → column_numbered r.columns n ≡ Some c → leaf_in (columns_of r) n q ≡ leaf_of c.kind q
leaf_in_column r n q c e = ap (option_and_then (λ (x : ℕ × Kind). leaf_of x.1 q)) (kind_of_column n r.columns ∙ ap (option_map (λ c. (c.number, c.kind))) e)

-- a setting of a column of the version, of its kind's shape
abbrev pub SetsColumn : Registered → ℕ × Value → Type 0
SetsColumn r s = (c : Column) × (column_numbered r.columns s.0 ≡ Some c) × IsTrue (has_shape s.1 c.kind)

sets_by : (r : Registered) (s : ℕ × Value) (o : Option Column) → column_numbered r.columns s.0 ≡ o → option_map_or (λ c. has_shape s.1 c.kind) o false ≡ true → SetsColumn r s
sets_by r s None e h = absurd (false≢true h)
sets_by r s (Some c) e h = (c, e, h)

pub sets_column : (r : Registered) (s : ℕ × Value) → IsTrue (shape_at r.columns s) → SetsColumn r s
sets_column r s h = sets_by r s (column_numbered r.columns s.0) refl h

-- what is set in a column
column_set_to : (r : Registered) (set : List (ℕ × Value)) (n : ℕ) (v : Value) → AllByRecursion (SetsColumn r) set → setting n set ≡ Some v → (c : Column) × (column_numbered r.columns n ≡ Some c) × IsTrue (has_shape v c.kind)
column_set_to r set n v a e = let h = setting_held (SetsColumn r) n v set a e in
    (h.1.0, ap (column_numbered r.columns) (sym h.2) ∙ h.1.1, subst (λ (x : Value). IsTrue (has_shape x h.1.0.kind)) h.3 h.1.2)

-- ---- lawful under the version's layout

suits_leaf_by : (c : ℕ) (q : List ℕ) (r : Rank) (p : Bool) (k : Kind) (v : Value) → leaf_of k q ≡ Some (r, p) → IsTrue (has_shape v k) → IsTrue (suits (leaf_at c q (r, p)) (leaf_cell (leaf_at c q (r, p)) v))
suits_leaf_by c q r true k v e h = subst (λ (x : Rank). IsTrue (suits (leaf_at c q (x, true)) (bool_cell (is_structure (value_along q v))))) (sym (presence_bool q k (r, true) e refl)) refl
suits_leaf_by c q r false k v e h = suits_plain c q r (value_along q v) (shape_along q k (r, false) v e refl h)

some_kind : (r : Registered) (l : Leaf) (c : Column) → IsMarked (columns_of r) l → column_numbered r.columns l.column ≡ Some c → leaf_of c.kind l.path ≡ Some (l.rank, l.presence)
some_kind r l c m e = sym (leaf_in_column r l.column l.path c e) ∙ m

fits_by : (r : Registered) (set : List (ℕ × Value)) (l : Leaf) (o : Option Value) → setting l.column set ≡ o → IsMarked (columns_of r) l → AllByRecursion (SetsColumn r) set → IsTrue (suits l (option_map_or (leaf_cell l) o unset))
fits_by r set l None e m a = refl
fits_by r set l (Some v) e m a = let c = column_set_to r set l.column v a e in suits_leaf_by l.column l.path l.rank l.presence c.0.kind v (some_kind r l c.0 m c.1) c.2

pub logged_laid : (r : Registered) (set : List (ℕ × Value)) → FineColumns r → AllByRecursion (SetsColumn r) set → AreLaid (layout_of (columns_of r)) (cell_in set)
logged_laid r set f a = let marks = all_marked (columns_of r) (version_columns_are r f) in record {
  fits = λ l i. fits_by r set l (setting l.column set) refl (all_at (IsMarked (columns_of r)) (layout_of (columns_of r)) l marks i) a;
  agrees = λ x y i j. laid_agrees set x y;
}

-- ---- at the carriers

column_is_set : (r : Registered) (set : List (ℕ × Value)) (n : ℕ) (c : Column) (v : Value) → column_numbered r.columns n ≡ Some c → setting n set ≡ Some v → sets n (beside (cell_in set) (layout_of (columns_of r))) ≡ true
column_is_set r set n c v e s =
    let l = leaf_at n [] (mark_of c.kind) in
    let i : Contains (layout_of (columns_of r)) l = leaf_in_layout (columns_of r) n [] (mark_of c.kind) (leaf_in_column r n [] c e) in
    any_of (sets_at n) (beside (cell_in set) (layout_of (columns_of r))) (l, cell_in set l) (in_map (λ l. (l, cell_in set l)) (layout_of (columns_of r)) l i)
    (and_from _ _ (eq-eqb n n refl) (ap not (ap (λ (o : Option Value). is_unset (option_map_or (leaf_cell l) o unset)) s ∙ leaf_cell-set l v)))

set_by : (r : Registered) (set : List (ℕ × Value)) (b : Leaf) (c : Column) (k : Kind) (v : Value) (o : Option Leaf) → FineColumns r → find (λ l. same_leaf l b) (layout_of (columns_of r)) ≡ o → column_numbered r.columns b.column ≡ Some c
    → IsTrue (is_rising c.kind) → clash k c.kind ≡ false → IsTrue (has_shape v c.kind) → leaf_of k b.path ≡ Some (b.rank, b.presence) → setting b.column set ≡ Some v
    → option_map_or (λ (c : Leaf × Cell). cell_to c.0.rank b.rank c.1) (option_map (λ l. (l, cell_in set l)) o) (lacking b (beside (cell_in set) (layout_of (columns_of r)))) ≡ leaf_cell b (conv v k)
set_by r set b c k v (Some a) fine f e up h i eb s =
    let p = leaf_is a b (find_held (λ l. same_leaf l b) (layout_of (columns_of r)) a f).1 in
    let ea : leaf_of c.kind b.path ≡ Some (a.rank, a.presence) = sym (leaf_in_column r b.column b.path c e) ∙ found_leaf (columns_of r) b a (version_columns_are r fine) f in
    ap (cell_to a.rank b.rank) (ap (λ (i : ℕ). option_map_or (leaf_cell a) (setting i set) unset) p.0 ∙ ap (λ (x : Option Value). option_map_or (leaf_cell a) x unset) s) ∙ leaf_goes c.kind k v a b h i ea eb p.1
set_by r set b c k v None fine f e up h i eb s =
    let none : leaf_of c.kind b.path ≡ None = no_leaf (leaf_of c.kind b.path) refl in
    ap (λ (x : Bool). cond x (cond b.presence (bool_cell false) null_cell) unset) (column_is_set r set b.column c v e s) ∙ cell_lacks c.kind k v b (shape_within v c.kind up i) eb none
  where
    no_leaf : (o : Option Mark) → leaf_of c.kind b.path ≡ o → leaf_of c.kind b.path ≡ None
    no_leaf None d = d
    no_leaf (Some m) d = let g = leaf_found (columns_of r) b m (version_columns_are r fine) (leaf_in_column r b.column b.path c e ∙ d) in let x : None ≡ Some g.0 = sym f ∙ g.1 in cc

fine_at : (r : Registered) (n : ℕ) (c : Column) → FineColumns r → column_numbered r.columns n ≡ Some c → IsTrue (is_rising c.kind)
fine_at r n c f e = let h = find_held (λ (c : Column). c.number == n) r.columns c e in (all_at (λ c. IsFineKind c.kind) r.columns c f.kinds h.0).0

cell_by : (u : Table) (v : ℕ) (r : Registered) (set : List (ℕ × Value)) (b : Leaf) (o : Option Value) → setting b.column set ≡ o → IsFineTable u → FineColumns r → registered u v ≡ Some r → AllByRecursion (SetsColumn r) set → LeafOf u b
    → cell_for (beside (cell_in set) (layout_of (columns_of r))) b ≡ cell_in (set_at u set) b
cell_by u v r set b None e fine f g a l = ap (λ (o : Option (Leaf × Cell)). option_map_or (λ (c : Leaf × Cell). cell_to c.0.rank b.rank c.1) o (lacking b (beside (cell_in set) (layout_of (columns_of r))))) (found_beside (cell_in set) b (layout_of (columns_of r)))
    ∙ unset_by set (layout_of (columns_of r)) b (find (λ l. same_leaf l b) (layout_of (columns_of r))) refl e
    ∙ sym (ap (λ (o : Option Value). option_map_or (leaf_cell b) o unset) (setting-map (at_carrier u) b.column set ∙ ap (option_map (at_carrier u b.column)) e))
cell_by u v r set b (Some w) e fine f g a l =
    let c = column_set_to r set b.column w a e in
    let t = carrier_takes u v b.column r c.0 l.kind fine g c.1 l.carried in
    ap (λ (o : Option (Leaf × Cell)). option_map_or (λ (c : Leaf × Cell). cell_to c.0.rank b.rank c.1) o (lacking b (beside (cell_in set) (layout_of (columns_of r))))) (found_beside (cell_in set) b (layout_of (columns_of r)))
    ∙ set_by r set b c.0 l.kind w (find (λ l. same_leaf l b) (layout_of (columns_of r))) f refl c.1 (fine_at r b.column c.0 f c.1) t.1 c.2 l.mark e
    ∙ ap (λ (o : Option Kind). leaf_cell b (option_map_or (conv w) o w)) (sym l.carried)
    ∙ sym (ap (λ (o : Option Value). option_map_or (leaf_cell b) o unset) (setting-map (at_carrier u) b.column set ∙ ap (option_map (at_carrier u b.column)) e))

-- what a version's change sets, in cells under its own layout, is at the carriers what it is seen as
pub logged_goes : (u : Table) (v : ℕ) (r : Registered) (set : List (ℕ × Value)) → IsFineTable u → FineColumns r → registered u v ≡ Some r → AllByRecursion (SetsColumn r) set
    → coerce (layout_of (columns_of r)) (layout_of (cols u)) (flatten (layout_of (columns_of r)) set) ≡ flatten (layout_of (cols u)) (set_at u set)
unfolding coerce
logged_goes u v r set fine f g a = ap (λ (xs : Cells). map (cell_for xs) (layout_of (cols u))) (with_own (cell_in set) (layout_of (columns_of r)))
    ∙ map_same (cell_for (beside (cell_in set) (layout_of (columns_of r)))) (cell_in (set_at u set)) (IsMarked (cols u)) (layout_of (cols u)) (λ b m. cell_by u v r set b (setting b.column set) refl fine f g a (leaf_in_cols u b m)) (all_marked (cols u) (are_columns u fine))

-- ---- and lawful there

seen_suits_by : (c : ℕ) (q : List ℕ) (r : Rank) (p : Bool) (k : Kind) (v : Value) → leaf_of k q ≡ Some (r, p) → IsTrue (lies_within v k) → IsTrue (suits (leaf_at c q (r, p)) (leaf_cell (leaf_at c q (r, p)) (conv v k)))
seen_suits_by c q r true k v e h = subst (λ (x : Rank). IsTrue (suits (leaf_at c q (x, true)) (bool_cell (is_structure (value_along q (conv v k)))))) (sym (presence_bool q k (r, true) e refl)) refl
seen_suits_by c q r false k v e h = subst (λ (w : Value). IsTrue (suits (leaf_at c q (r, false)) (cell_of w))) (sym ((along q k (r, false) v e).plainly refl))
    (suits_plain c q r (at_rank r (value_along q v)) (lies_shape r (value_along q v) (lies_along q k (r, false) v e refl h)))

seen_fits_by : (u : Table) (v : ℕ) (r : Registered) (set : List (ℕ × Value)) (l : Leaf) (o : Option Value) → setting l.column set ≡ o → IsFineTable u → FineColumns r → registered u v ≡ Some r → AllByRecursion (SetsColumn r) set → LeafOf u l
    → IsTrue (suits l (option_map_or (leaf_cell l) (option_map (at_carrier u l.column) o) unset))
seen_fits_by u v r set l None e fine f g a x = refl
seen_fits_by u v r set l (Some w) e fine f g a x =
    let c = column_set_to r set l.column w a e in
    let t = carrier_takes u v l.column r c.0 x.kind fine g c.1 x.carried in
    subst (λ (k : Option Kind). IsTrue (suits l (leaf_cell l (option_map_or (conv w) k w)))) (sym x.carried)
    (seen_suits_by l.column l.path l.rank l.presence x.kind w x.mark (t.0 w (shape_within w c.0.kind (fine_at r l.column c.0 f c.1) c.2)))

pub seen_laid : (u : Table) (v : ℕ) (r : Registered) (set : List (ℕ × Value)) → IsFineTable u → FineColumns r → registered u v ≡ Some r → AllByRecursion (SetsColumn r) set → AreLaid (layout_of (cols u)) (cell_in (set_at u set))
seen_laid u v r set fine f g a = let marks = all_marked (cols u) (are_columns u fine) in record {
  fits = λ l i. subst (λ (o : Option Value). IsTrue (suits l (option_map_or (leaf_cell l) o unset))) (sym (setting-map (at_carrier u) l.column set))
      (seen_fits_by u v r set l (setting l.column set) refl fine f g a (leaf_in_cols u l (all_at (IsMarked (cols u)) (layout_of (cols u)) l marks i)));
  agrees = λ x y i j. laid_agrees (set_at u set) x y;
}
