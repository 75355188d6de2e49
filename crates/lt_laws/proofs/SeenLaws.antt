-- A fair change as a store holds it is a lawful version under the carriers, and stays as it is where it is read by them again.
use Rattle.std.proofs.Common.{Bool, List, [], ap, ap₂, arith, cond, eq-eqb, eqb-true, false, le-leb, length, ltb-true, refl, subst, suc, sym, take, true, ℕ, ◌<◌, ◌∙◌, ◌∷◌, ◌≡◌, ◌≤◌}
use Rattle.std.specs.Prelude.{Contains, IsTrue, None, Option, Some, find, flat_map, map, nat_eq, nat_le, nat_lt, not, option_map, ◌&&◌, ◌==◌, ◌||◌}
use Rattle.std.specs.List.{AllByRecursion, list_all, starts_with}
use Rattle.std.proofs.lemmas.Bool.{and_from, and_parts, false≢true}
use Rattle.std.specs.Option.{option_map_or}
use Rattle.std.specs.Str.{is_utf8}
use Rattle.std.specs.Cmp.Lexicographic.{pointwise}
use Rattle.std.proofs.lemmas.List.{length-append}
use Rattle.lt_terms.specs.Layout.{Cell, Leaf, agree, are_lawful, bool_cell, bytes_cell, cell_of, cell_to, coerce, field_of, flatten, int_cell, is_below, is_structure, is_unset, is_void, lacking, layout_of, leaf_cell, null_cell, same_leaf, same_truth, says_absent, setting, suits, unset, value_along, value_of}
use Rattle.lt_terms.specs.declared.Rank.{Rank}
use Rattle.lt_terms.specs.Kind.{Kind, has_shape, plain}
use Rattle.lt_terms.specs.Value.{Value, bool_value, bytes_value, fits_32, int_value, null_value, struct_value, text_value}
use Rattle.lt_terms.specs.Conversion.{at_rank, conv}
use Rattle.lt_terms.specs.Log.{Change, change_key, op_byte, u32}
use Rattle.lt_terms.specs.Key.{max_key, part_bytes}
use Rattle.lt_terms.specs.declared.Op.{Op}
use Rattle.lt_tables.specs.Schema.{Catalogue, IsCatalogue, Table, carrier, carriers, table_numbered}
use Rattle.lt_tables.specs.Version.{RowVersion, carried, coerced, is_delete, is_version, seen}
use Rattle.lt_machine.specs.Laws.{lies_within}
use Rattle.lt_codecs.proofs.ListFacts.{all_map}
use Rattle.lt_lemmas.proofs.ListFacts.{all_from, find_held}
use Rattle.lt_lemmas.proofs.TableLaws.{IsFineTable, fine_table}
use Rattle.lt_laws.proofs.CoerceLaws.{Cells, IsOfRank, beside, cell_as, cell_for, found_beside, is_the_unset, map_same, suits_rank, unset_to, with_own}
use Rattle.lt_laws.proofs.ConversionLemmas.{rank_stays}
use Rattle.lt_laws.proofs.LeafLaws.{AreColumns, IsMarked, Mark, all_marked, found_leaf, leaf_found, leaf_in, leaf_is, leaf_of}
use Rattle.lt_laws.proofs.ListFacts.{all_at}
use Rattle.lt_laws.proofs.WidenLaws.{along, along_none, lies_along, lies_shape, presence_bool}
use Rattle.lt_laws.proofs.ScanLemmas.{IsWithin, at_carrier, leaf_cell-set, setting-map}
use Rattle.lt_laws.proofs.TableGrowth.{IsSetIn, LeafOf, are_columns, cell_in, cols, leaf_in_cols, set_at, setting_held}
use Rattle.lt_laws.proofs.AnswerLaws.{IsSound}
use Rattle.lt_laws.proofs.WidenedRows.{carried_as, sound_sets, sound_shape}
use Rattle.lt_laws.proofs.WidenedStore.{known_carriers}
use Rattle.lt_terms.specs.declared.Rank.TheVariants as rank
use Rattle.lt_terms.specs.declared.Op.TheVariants as ops
use Rattle.lt_lemmas.proofs.PointLaws.{left, right}

-- ---- cells under a layout, leaf by leaf

-- the cells of some leaves suit them and agree
pub record AreLaid (ls : List Leaf) (h : Leaf → Cell) : Type 0 where
  pub fits : (l : Leaf) → Contains ls l → IsTrue (suits l (h l))
  pub agrees : (a b : Leaf) → Contains ls a → Contains ls b → IsTrue (agree (a, h a) (b, h b))

as_long : (ls : List Leaf) (h : Leaf → Cell) → length ls ≡ length (map h ls)
as_long [] h = refl
as_long (l ∷ ls) h = ap suc (as_long ls h)

laid_all : (test : Leaf × Cell → Bool) (h : Leaf → Cell) (ls : List Leaf) → AllByRecursion (λ l. IsTrue (test (l, h l))) ls → IsTrue (list_all test (beside h ls))
laid_all test h [] a = refl
laid_all test h (l ∷ ls) a = and_from _ _ a.0 (laid_all test h ls a.1)

pub laid_lawful : (ls : List Leaf) (h : Leaf → Cell) → AreLaid ls h → IsTrue (are_lawful ls (map h ls))
laid_lawful ls h a = subst (λ (xs : Cells). IsTrue ((length ls == length (map h ls)) && list_all (λ c. suits c.0 c.1) xs && list_all (λ a. list_all (agree a) xs) xs)) (sym (with_own h ls))
    (and_from _ _ (and_from _ _ (eq-eqb (length ls) (length (map h ls)) (as_long ls h)) (laid_all (λ c. suits c.0 c.1) h ls (all_from (λ l. IsTrue (suits l (h l))) ls a.fits)))
    (laid_all (λ c. list_all (agree c) (beside h ls)) h ls (all_from (λ l. IsTrue (list_all (agree (l, h l)) (beside h ls))) ls
    (λ l i. laid_all (agree (l, h l)) h ls (all_from (λ b. IsTrue (agree (l, h l) (b, h b))) ls (λ b j. a.agrees l b i j))))))

-- ---- lawful cells, read again by their own layout

pub set_back : (r : Rank) (y : Cell) → is_unset y ≡ false → cell_of (value_of r y) ≡ y
set_back r unset u = absurd (false≢true (sym u))
set_back r null_cell u = refl
set_back r (bool_cell b) u = refl
set_back r (int_cell z) u = refl
set_back rank.Bool (bytes_cell t) u = refl
set_back rank.Int32 (bytes_cell t) u = refl
set_back rank.Int64 (bytes_cell t) u = refl
set_back rank.Text (bytes_cell t) u = refl
set_back rank.Bytes (bytes_cell t) u = refl

pub to_own : (r : Rank) (y : Cell) → IsOfRank r y → cell_to r r y ≡ y
to_own r y h = by_set (is_unset y) refl
  where
    by_set : (u : Bool) → is_unset y ≡ u → cell_to r r y ≡ y
    by_set true e = let d : y ≡ unset = is_the_unset y e in ap (cell_to r r) d ∙ unset_to r r ∙ sym d
    by_set false e = cell_as r r y e ∙ ap cell_of (rank_stays r (value_of r y) h) ∙ set_back r y e

own_by : (cs : List (ℕ × Kind)) (h : Leaf → Cell) (b : Leaf) (o : Option Leaf) → AreColumns cs → leaf_in cs b.column b.path ≡ Some (b.rank, b.presence) → find (λ l. same_leaf l b) (layout_of cs) ≡ o → IsOfRank b.rank (h b)
    → option_map_or (λ (c : Leaf × Cell). cell_to c.0.rank b.rank c.1) (option_map (λ l. (l, h l)) o) (lacking b (beside h (layout_of cs))) ≡ h b
own_by cs h b None a m e r = let g = leaf_found cs b (b.rank, b.presence) a m in let x : None ≡ Some g.0 = sym e ∙ g.1 in cc
own_by cs h b (Some l) a m e r =
    let p = leaf_is l b (find_held (λ l. same_leaf l b) (layout_of cs) l e).1 in
    let d : Some (b.rank, b.presence) ≡ Some (l.rank, l.presence) = sym m ∙ found_leaf cs b l a e in
    let x : (b.rank, b.presence) ≡ (l.rank, l.presence) = cc in
    let same : l ≡ b = leaf_eta l b p.0 p.1 (sym (ap (λ (y : Mark). y.0) x)) (sym (ap (λ (y : Mark). y.1) x)) in
    ap (λ (k : Leaf). cell_to k.rank b.rank (h k)) same ∙ to_own b.rank (h b) r
  where
    leaf_eta : (l b : Leaf) → l.column ≡ b.column → l.path ≡ b.path → l.rank ≡ b.rank → l.presence ≡ b.presence → l ≡ b
    leaf_eta l b c p r q = ap (λ (x : ℕ). let k : Leaf = record { column = x; path = l.path; rank = l.rank; presence = l.presence } in k) c
        ∙ ap₂ (λ (x : List ℕ) (y : Mark). let k : Leaf = record { column = b.column; path = x; rank = y.0; presence = y.1 } in k) p (ap₂ (λ (x : Rank) (y : Bool). let m : Mark = (x, y) in m) r q)

pub coerce_own : (cs : List (ℕ × Kind)) (h : Leaf → Cell) → AreColumns cs → ((l : Leaf) → Contains (layout_of cs) l → IsOfRank l.rank (h l)) → coerce (layout_of cs) (layout_of cs) (map h (layout_of cs)) ≡ map h (layout_of cs)
unfolding coerce
coerce_own cs h a r =
    let ls = layout_of cs in
    let marks = all_marked cs a in
    ap (λ (xs : Cells). map (cell_for xs) ls) (with_own h ls)
    ∙ map_same (cell_for (beside h ls)) h (λ l. IsMarked cs l × IsOfRank l.rank (h l)) ls
    (λ b m. ap (λ (o : Option (Leaf × Cell)). option_map_or (λ (c : Leaf × Cell). cell_to c.0.rank b.rank c.1) o (lacking b (beside h ls))) (found_beside h b ls) ∙ own_by cs h b (find (λ l. same_leaf l b) ls) a m.0 refl m.1)
    (all_from (λ l. IsMarked cs l × IsOfRank l.rank (h l)) ls (λ l i. (all_at (IsMarked cs) ls l marks i, r l i)))

-- ---- what is set lies lawfully

pub suits_plain : (c : ℕ) (path : List ℕ) (r : Rank) (w : Value) → IsTrue (has_shape w (plain r)) → IsTrue (suits (record { column = c; path = path; rank = r; presence = false }) (cell_of w))
suits_plain c path r null_value h = refl
suits_plain c path rank.Bool (bool_value b) h = refl
suits_plain c path rank.Int32 (int_value z) h = or_no (fits_32 z) h
  where
    or_no : (b : Bool) → b ≡ true → (b || false) ≡ true
    or_no true h = refl
    or_no false h = h
suits_plain c path rank.Int64 (int_value z) h = h
suits_plain c path rank.Text (text_value t) h = or_no (is_utf8 t) h
  where
    or_no : (b : Bool) → b ≡ true → (b || false) ≡ true
    or_no true h = refl
    or_no false h = h
suits_plain c path rank.Bytes (bytes_value t) h = refl
suits_plain c path r w h = absurd (false≢true h)

suits_by : (c : ℕ) (path : List ℕ) (r : Rank) (p : Bool) (k : Kind) (v : Value) → leaf_of k path ≡ Some (r, p) → IsTrue (lies_within v k)
    → IsTrue (suits (record { column = c; path = path; rank = r; presence = p }) (leaf_cell (record { column = c; path = path; rank = r; presence = p }) (conv v k)))
suits_by c path r true k v e h = let d : r ≡ rank.Bool = presence_bool path k (r, true) e refl in
    subst (λ (x : Rank). IsTrue (suits (record { column = c; path = path; rank = x; presence = true }) (bool_cell (is_structure (value_along path (conv v k)))))) (sym d) refl
suits_by c path r false k v e h =
    let at : value_along path (conv v k) ≡ at_rank r (value_along path v) = (along path k (r, false) v e).plainly refl in
    subst (λ (w : Value). IsTrue (suits (record { column = c; path = path; rank = r; presence = false }) (cell_of w))) (sym at) (suits_plain c path r (at_rank r (value_along path v)) (lies_shape r (value_along path v) (lies_along path k (r, false) v e refl h)))

set_suits : (t : Table) (set : List (ℕ × Value)) (l : Leaf) (o : Option Value) → setting l.column set ≡ o → LeafOf t l → AllByRecursion (IsWithin t) set → IsTrue (suits l (option_map_or (leaf_cell l) (option_map (at_carrier t l.column) o) unset))
set_suits t set l None e f a = refl
set_suits t set l (Some v) e f a =
    let s = setting_held (IsWithin t) l.column v set a e in
    let w : IsTrue (lies_within v f.kind) = subst (λ (x : Value). IsTrue (lies_within x f.kind)) s.3 (s.1.within f.kind (ap (carrier t) s.2 ∙ f.carried)) in
    subst (λ (x : Option Kind). IsTrue (suits l (leaf_cell l (option_map_or (conv v) x v)))) (sym f.carried) (suits_by l.column l.path l.rank l.presence f.kind v f.mark w)

pub laid_suits : (t : Table) (set : List (ℕ × Value)) (l : Leaf) → LeafOf t l → AllByRecursion (IsWithin t) set → IsTrue (suits l (cell_in (set_at t set) l))
laid_suits t set l f a = subst (λ (o : Option Value). IsTrue (suits l (option_map_or (leaf_cell l) o unset))) (sym (setting-map (at_carrier t) l.column set)) (set_suits t set l (setting l.column set) refl f a)

-- ---- and agrees

no_field : (n : ℕ) (w : Value) → is_structure w ≡ false → field_of n w ≡ null_value
no_field n null_value h = refl
no_field n (bool_value b) h = refl
no_field n (int_value z) h = refl
no_field n (text_value t) h = refl
no_field n (bytes_value t) h = refl
no_field n (struct_value fs) h = absurd (false≢true (sym h))

below_along : (p q : List ℕ) (w : Value) → length p < length q → pointwise nat_eq p (take (length p) q) ≡ true → is_structure (value_along p w) ≡ false → value_along q w ≡ null_value
below_along [] [] w l e h = absurd (omega (arith, l))
below_along [] (n ∷ q) w l e h = ap (value_along q) (no_field n w h) ∙ along_none q
below_along (a ∷ p) [] w l e h = absurd (omega (arith, l))
below_along (a ∷ p) (b ∷ q) w l e h =
    let k = and_parts (a == b) (pointwise nat_eq p (take (length p) q)) e in
    let d : a ≡ b = eqb-true a b k.0 in
    ap (λ (n : ℕ). value_along q (field_of n w)) (sym d) ∙ below_along p q (field_of a w) (omega (arith, l)) k.1 h

void_null : (b : Leaf) (w : Value) (p : Bool) → b.presence ≡ p → value_along b.path w ≡ null_value → is_void b (cond p (bool_cell (is_structure (value_along b.path w))) (cell_of (value_along b.path w))) ≡ true
void_null b w true q e = and_from _ _ q (ap (λ (x : Value). not (is_structure x)) e)
void_null b w false q e = ap (λ (x : Value). is_void b (cell_of x)) e ∙ ap not q

absent_by : (a : Leaf) (w : Value) (p : Bool) → a.presence ≡ p → (p && is_void a (cond p (bool_cell (is_structure (value_along a.path w))) (cell_of (value_along a.path w)))) ≡ true → is_structure (value_along a.path w) ≡ false
absent_by a w false q h = absurd (false≢true h)
absent_by a w true q h = untrue (is_structure (value_along a.path w)) (and_parts a.presence (not (is_structure (value_along a.path w))) h).1
  where
    untrue : (b : Bool) → not b ≡ true → b ≡ false
    untrue true h = sym h
    untrue false h = refl

void_below : (a b : Leaf) (w : Value) → is_below a b ≡ true → says_absent a (leaf_cell a w) ≡ true → is_void b (leaf_cell b w) ≡ true
void_below a b w h s =
    let p = and_parts ((a.column == b.column) && nat_lt (length a.path) (length b.path)) (starts_with nat_eq b.path a.path) h in
    let q = and_parts (a.column == b.column) (nat_lt (length a.path) (length b.path)) p.0 in
    void_null b w b.presence refl (below_along a.path b.path w (ltb-true (length a.path) (length b.path) q.1) p.1 (absent_by a w a.presence refl s))

pub implied : (x y z : Bool) → (x ≡ true → y ≡ true → z ≡ true) → (not (x && y) || z) ≡ true
implied true true z f = f refl refl
implied true false z f = refl
implied false y z f = refl

pub when_same : (x y : Bool) → (x ≡ true → y ≡ true) → (not x || y) ≡ true
when_same true y f = f refl
when_same false y f = refl

pub truths : (a b : Bool) → a ≡ b → same_truth a b ≡ true
truths true b e = sym e
truths false true e = e
truths false false e = refl

cells_set : (a b : Leaf) (o : Option Value) → is_unset (option_map_or (leaf_cell a) o unset) ≡ is_unset (option_map_or (leaf_cell b) o unset)
cells_set a b None = refl
cells_set a b (Some w) = leaf_cell-set a w ∙ sym (leaf_cell-set b w)

below_void : (a b : Leaf) (o : Option Value) → is_below a b ≡ true → says_absent a (option_map_or (leaf_cell a) o unset) ≡ true → is_void b (option_map_or (leaf_cell b) o unset) ≡ true
below_void a b None h s = absurd (false≢true (and_parts a.presence false s).1)
below_void a b (Some w) h s = void_below a b w h s

at_column : (set : List (ℕ × Value)) (a b : Leaf) → a.column ≡ b.column → cell_in set b ≡ option_map_or (leaf_cell b) (setting a.column set) unset
at_column set a b e = ap (λ (n : ℕ). option_map_or (leaf_cell b) (setting n set) unset) (sym e)

pub laid_agrees : (set : List (ℕ × Value)) (a b : Leaf) → IsTrue (agree (a, cell_in set a) (b, cell_in set b))
laid_agrees set a b = and_from _ _
    (when_same (a.column == b.column) (same_truth (is_unset (cell_in set a)) (is_unset (cell_in set b)))
    (λ e. truths _ _ (cells_set a b (setting a.column set) ∙ ap is_unset (sym (at_column set a b (eqb-true a.column b.column e))))))
    (implied (is_below a b) (says_absent a (cell_in set a)) (is_void b (cell_in set b))
    (λ h s. let p = and_parts ((a.column == b.column) && nat_lt (length a.path) (length b.path)) (starts_with nat_eq b.path a.path) h in
    let e = eqb-true a.column b.column (and_parts (a.column == b.column) (nat_lt (length a.path) (length b.path)) p.0).0 in
    ap (is_void b) (at_column set a b e) ∙ below_void a b (setting a.column set) h s))

-- ---- the version that a fair change is seen as

pub length_u32 : (n : ℕ) → length (u32 n) ≡ 4
length_u32 n = refl

pub long_key : (c : Change) → 4 ≤ length (change_key c)
long_key c = let l = length-append (u32 c.table) (flat_map part_bytes c.key) in let f = length_u32 c.table in omega (arith, l, f)

pub unset_all : (ls : List Leaf) → IsTrue (list_all is_unset (flatten ls []))
unset_all [] = refl
unset_all (l ∷ ls) = unset_all ls

pub none_long : {A : Type 0} (xs : List A) → length xs ≡ 0 → xs ≡ []
none_long [] e = refl
none_long (x ∷ xs) e = absurd (omega (arith, e))

none_deleted : (o : Op) (ls : List Leaf) (f : ℕ × Value → ℕ × Value) (set : List (ℕ × Value)) → (not (op_byte o == 3) || length set == 0) ≡ true → (not (is_delete o) || list_all is_unset (flatten ls (map f set))) ≡ true
none_deleted ops.Insert ls f set h = refl
none_deleted ops.Update ls f set h = refl
none_deleted ops.Delete ls f set h = subst (λ (s : List (ℕ × Value)). IsTrue (list_all is_unset (flatten ls (map f s)))) (sym (none_long set (eqb-true (length set) 0 h))) (unset_all ls)

laid_seen : (cat : Catalogue) (t : Table) (set : List (ℕ × Value)) → IsFineTable t → AllByRecursion (IsSetIn t) set → AreLaid (layout_of (cols t)) (cell_in (set_at t set))
laid_seen cat t set fine a =
    let ls = layout_of (cols t) in
    let marks = all_marked (cols t) (are_columns t fine) in record {
      fits = λ l i. laid_suits t set l (leaf_in_cols t l (all_at (IsMarked (cols t)) ls l marks i)) (all_map (IsSetIn t) (IsWithin t) set (λ s x. x.0) a);
      agrees = λ a b i j. laid_agrees (set_at t set) a b;
    }

-- the cells of a fair change, leaf by leaf
seen_laid : (cat : Catalogue) (c : Change) → IsCatalogue cat → IsSound cat c → (t : Table) × (table_numbered cat c.table ≡ Some t) × (carriers cat c.table ≡ layout_of (cols t)) × AreLaid (layout_of (cols t)) (cell_in (set_at t c.set))
    × (flatten (carriers cat c.table) (map (carried cat c.table) c.set) ≡ map (cell_in (set_at t c.set)) (layout_of (cols t)))
seen_laid cat c is s =
    let x = sound_shape cat c s in
    let known = known_carriers cat c.table x.table x.known in (
      x.table,
      x.known,
      known,
      laid_seen cat x.table c.set (fine_table cat c.table x.table is x.known) (sound_sets cat x.table c is x.known s),
      ap₂ flatten known (carried_as cat c.table x.table c.set x.known),
    )

pub seen_lawful : (cat : Catalogue) (c : Change) → IsCatalogue cat → IsSound cat c → IsTrue (is_version (carriers cat c.table) (seen cat c))
unfolding seen
seen_lawful cat c is s =
    let x = seen_laid cat c is s in
    let l = s.2 in
    let key = right _ (nat_le (length (change_key c)) max_key) (left _ _ (left _ _ (left _ _ l))) in
    let ts = left _ _ (left _ _ (left _ _ (left _ _ (left _ _ (left _ _ (left _ _ (left _ _ (left _ _ (left _ _ l))))))))) in
    and_from _ _ (and_from _ _ (and_from _ _ (and_from _ _ (le-leb 4 (length (change_key c)) (long_key c)) key) ts)
    (subst (λ (cells : List Cell). IsTrue (are_lawful (carriers cat c.table) cells)) (sym x.4) (subst (λ (ls : List Leaf). IsTrue (are_lawful ls (map (cell_in (set_at x.0 c.set)) (layout_of (cols x.0))))) (sym x.2) (laid_lawful (layout_of (cols x.0)) (cell_in (set_at x.0 c.set)) x.3))))
    (none_deleted c.op (carriers cat c.table) (carried cat c.table) c.set (right _ (not (op_byte c.op == 3) || length c.set == 0) l))

-- read again by the carriers it is itself
pub seen_own : (cat : Catalogue) (c : Change) → IsCatalogue cat → IsSound cat c → coerced (carriers cat c.table) (carriers cat c.table) (seen cat c) ≡ seen cat c
unfolding seen
seen_own cat c is s =
    let x = seen_laid cat c is s in
    let ls = layout_of (cols x.0) in
    let h = cell_in (set_at x.0 c.set) in
    let own : coerce ls ls (map h ls) ≡ map h ls = coerce_own (cols x.0) h (are_columns x.0 (fine_table cat c.table x.0 is x.1)) (λ l i. suits_rank l.column l.path l.rank l.presence (h l) (x.3.fits l i)) in
    ap (λ (cells : List Cell). let v : RowVersion = record { key = change_key c; ts = c.ts; op = c.op; cells = cells } in v)
    (ap₂ (λ (a : List Leaf) (cells : List Cell). coerce a a cells) x.2 x.4 ∙ own ∙ sym x.4)
