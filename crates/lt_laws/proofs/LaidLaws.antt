-- Lawful cells stay lawful where they go over to the carriers, and where one list of them is laid over another.
use Rattle.std.proofs.Common.{Bool, List, [], ap, ap₂, arith, cond, eq-eqb, eqb-true, false, inl, inr, length, ltb-true, refl, subst, suc, sym, take, true, zero, ℕ, ◌<◌, ◌∙◌, ◌∷◌, ◌≡◌}
use Rattle.std.specs.Prelude.{Contains, IsTrue, None, Option, Some, nat_eq, nat_lt, not, option_and_then, ◌&&◌, ◌==◌, ◌||◌, ◌⊎◌}
use Rattle.std.specs.Cmp.Lexicographic.{pointwise}
use Rattle.std.proofs.lemmas.Bool.{and_from, and_parts, false≢true}
use Rattle.std.specs.List.{list_all, starts_with}
use Rattle.std.specs.Option.{option_map_or}
use Rattle.lt_terms.specs.Kind.{Kind, enumeration, kind_at, kinds_of, plain, structured}
use Rattle.lt_terms.specs.Layout.{Cell, Leaf, agree, are_lawful, bool_cell, bytes_cell, cell_of, cell_to, int_cell, is_below, is_unset, is_void, lacking, layout_of, null_cell, same_leaf, same_truth, says_absent, sets, suits, unset, value_of, with_cells}
use Rattle.lt_terms.specs.declared.Rank.{Rank}
use Rattle.lt_terms.specs.Conversion.{at_rank}
use Rattle.lt_lemmas.proofs.ListFacts.{find_held}
use Rattle.lt_lemmas.proofs.SoundLaws.{not-true}
use Rattle.lt_laws.proofs.LeafLaws.{AreColumns, IsMarked, Mark, all_marked, leaf_at, leaf_in, leaf_in_layout, leaf_is, leaf_of, leaf_same}
use Rattle.lt_laws.proofs.WidenLaws.{bool_to, next_kind, presence_bool}
use Rattle.lt_laws.proofs.ScanLemmas.{kind_for}
use Rattle.lt_laws.proofs.ListFacts.{all_at, any_held, held_is_found}
use Rattle.lt_laws.proofs.ReadLaws.{all_tests}
use Rattle.lt_laws.proofs.WidenedStore.{in_layout, lawful_fit}
use Rattle.lt_laws.proofs.CoerceLaws.{AreFit, Cells, IsOfRank, IsServed, cell_as, cell_for, for_set_by, found_for, is_the_unset, null_to, over, set_back_by, sets_at, shape_at, unset_to}
use Rattle.lt_laws.proofs.SeenLaws.{AreLaid, implied, suits_plain, truths, when_same}
use Rattle.lt_terms.specs.declared.Rank.TheVariants as rank

-- ---- a layout has the leaves above each of its leaves

leaf_over : (p q : List ℕ) (k : Kind) (m : Mark) → leaf_of k q ≡ Some m → length p < length q → pointwise nat_eq p (take (length p) q) ≡ true → leaf_of k p ≡ Some (rank.Bool, true)
leaf_over [] [] k m e l h = absurd (omega (arith, l))
leaf_over [] (n ∷ q) (plain r) m e l h = cc
leaf_over [] (n ∷ q) (enumeration names) m e l h = cc
leaf_over [] (n ∷ q) (structured ks) m e l h = refl
leaf_over (a ∷ p) [] k m e l h = absurd (omega (arith, l))
leaf_over (a ∷ p) (b ∷ q) k m e l h =
    let w = and_parts (a == b) (pointwise nat_eq p (take (length p) q)) h in
    let d : a ≡ b = eqb-true a b w.0 in
    let j = next_kind q m (kind_at b (kinds_of k)) e in
    ap (option_and_then (λ k. leaf_of k p)) (ap (λ (n : ℕ). kind_at n (kinds_of k)) d ∙ j.1) ∙ leaf_over p q j.0 m j.2 (omega (arith, l)) w.1

kind_of_mark : (path : List ℕ) (m : Mark) (o : Option (ℕ × Kind)) → option_and_then (λ c. leaf_of c.1 path) o ≡ Some m → (x : ℕ × Kind) × (o ≡ Some x) × (leaf_of x.1 path ≡ Some m)
kind_of_mark path m None e = cc
kind_of_mark path m (Some x) e = (x, refl, e)

over_in : (cs : List (ℕ × Kind)) (n : ℕ) (p q : List ℕ) (m : Mark) → leaf_in cs n q ≡ Some m → length p < length q → pointwise nat_eq p (take (length p) q) ≡ true → leaf_in cs n p ≡ Some (rank.Bool, true)
over_in cs n p q m e l h = let k = kind_of_mark q m (kind_for cs n) e in ap (option_and_then (λ (c : ℕ × Kind). leaf_of c.1 p)) k.1 ∙ leaf_over p q k.0.1 m k.2 l h

pub marked_bool : (cs : List (ℕ × Kind)) (l : Leaf) → IsMarked cs l → l.presence ≡ true → l.rank ≡ rank.Bool
marked_bool cs l e h = let k = kind_of_mark l.path (l.rank, l.presence) (kind_for cs l.column) e in presence_bool l.path k.0.1 (l.rank, l.presence) k.2 h

with_leaf : (ls : List Leaf) (cells : List Cell) (l : Leaf) → length ls ≡ length cells → Contains ls l → (c : Cell) × Contains (with_cells ls cells) (l, c)
with_leaf [] cells l e h = absurd (omega (arith, h.1))
with_leaf (k ∷ ls) [] l e h = absurd (omega (arith, e))
with_leaf (k ∷ ls) (c ∷ cells) l e (zero, n, d) = (c, (zero, omega arith, ap (λ (x : Leaf). let y : Leaf × Cell = (x, c) in y) d))
with_leaf (k ∷ ls) (c ∷ cells) l e (suc i, n, d) = let r = with_leaf ls cells l (omega (arith, e)) (i, omega (arith, n), d) in (r.0, (let h = r.1 in (suc h.0, omega (arith, h.1), h.2)))

-- ---- lawful cells beside their leaves

pub record AreCells (cf : List (ℕ × Kind)) (cells : List Cell) : Type 0 where
  pub columns : AreColumns cf
  pub lawful : IsTrue (are_lawful (layout_of cf) cells)

as_long : (cf : List (ℕ × Kind)) (cells : List Cell) → AreCells cf cells → length (layout_of cf) ≡ length cells
as_long cf cells a =
    let both = with_cells (layout_of cf) cells in
    let p = and_parts ((length (layout_of cf) == length cells) && list_all (λ c. suits c.0 c.1) both) (list_all (λ a. list_all (agree a) both) both) a.lawful in
    eqb-true (length (layout_of cf)) (length cells) (and_parts (length (layout_of cf) == length cells) (list_all (λ c. suits c.0 c.1) both) p.0).0

cell_suits : (cf : List (ℕ × Kind)) (cells : List Cell) (x : Leaf × Cell) → AreCells cf cells → Contains (with_cells (layout_of cf) cells) x → IsTrue (suits x.0 x.1)
cell_suits cf cells x a h =
    let both = with_cells (layout_of cf) cells in
    let p = and_parts ((length (layout_of cf) == length cells) && list_all (λ c. suits c.0 c.1) both) (list_all (λ a. list_all (agree a) both) both) a.lawful in
    all_at (λ (c : Leaf × Cell). IsTrue (suits c.0 c.1)) both x (all_tests (λ (c : Leaf × Cell). suits c.0 c.1) both (and_parts (length (layout_of cf) == length cells) (list_all (λ c. suits c.0 c.1) both) p.0).1) h

cells_agree : (cf : List (ℕ × Kind)) (cells : List Cell) (x y : Leaf × Cell) → AreCells cf cells → Contains (with_cells (layout_of cf) cells) x → Contains (with_cells (layout_of cf) cells) y → IsTrue (agree x y)
cells_agree cf cells x y a h i =
    let both = with_cells (layout_of cf) cells in
    let p = and_parts ((length (layout_of cf) == length cells) && list_all (λ c. suits c.0 c.1) both) (list_all (λ a. list_all (agree a) both) both) a.lawful in
    all_at (λ b. IsTrue (agree x b)) both y (all_tests (agree x) both (all_at (λ a. IsTrue (list_all (agree a) both)) both x (all_tests (λ a. list_all (agree a) both) both p.1) h)) i

leaf_marked : (cf : List (ℕ × Kind)) (cells : List Cell) (x : Leaf × Cell) → AreCells cf cells → Contains (with_cells (layout_of cf) cells) x → IsMarked cf x.0
leaf_marked cf cells x a h = all_at (IsMarked cf) (layout_of cf) x.0 (all_marked cf a.columns) (in_layout (layout_of cf) cells x h)

-- ---- what a leaf of the carriers gets of them

-- a leaf of the target, served by the cells
pub record IsTarget (cf cs : List (ℕ × Kind)) (cells : List Cell) (b : Leaf) : Type 0 where
  pub mark : IsMarked cs b
  pub served : IsServed (with_cells (layout_of cf) cells) cs b

same_presence : (cf cs : List (ℕ × Kind)) (cells : List Cell) (b : Leaf) (x : Leaf × Cell) → IsTarget cf cs cells b → Contains (with_cells (layout_of cf) cells) x → same_leaf x.0 b ≡ true → x.0.presence ≡ b.presence
same_presence cf cs cells b x t h s =
    let p = leaf_is x.0 b s in
    let w = t.served.0 x h p.0 in
    let d : Some w.0 ≡ Some (b.rank, b.presence) = sym w.1 ∙ ap₂ (leaf_in cs) p.0 p.1 ∙ t.mark in
    let y : w.0 ≡ (b.rank, b.presence) = cc in
    sym w.3 ∙ ap (λ (m : Mark). m.1) y

to_bool : (a b : Rank) (y : Cell) → a ≡ rank.Bool → b ≡ rank.Bool → cell_to a b y ≡ cell_to rank.Bool rank.Bool y
to_bool a b y d e = ap₂ (λ (u v : Rank). cell_to u v y) d e

-- what a cell of a presence leaf is
presence_cell : (c : ℕ) (path : List ℕ) (y : Cell) → IsTrue (suits (leaf_at c path (rank.Bool, true)) y) → (y ≡ unset) ⊎ ((x : Bool) × (y ≡ bool_cell x))
presence_cell c path unset h = inl refl
presence_cell c path null_cell h = absurd (false≢true h)
presence_cell c path (bool_cell x) h = inr (x, refl)
presence_cell c path (int_cell z) h = absurd (false≢true h)
presence_cell c path (bytes_cell t) h = absurd (false≢true h)

leaf_as : (l : Leaf) → l.presence ≡ true → l.rank ≡ rank.Bool → l ≡ leaf_at l.column l.path (rank.Bool, true)
leaf_as l p r = ap₂ (λ (x : Rank) (y : Bool). leaf_at l.column l.path (x, y)) r p

suits_present : (b : Leaf) (y : Cell) (x : Leaf) → b.presence ≡ true → b.rank ≡ rank.Bool → x.presence ≡ true → x.rank ≡ rank.Bool → IsTrue (suits x y) → IsTrue (suits b (cell_to x.rank b.rank y))
suits_present b y x bp br xp xr h =
    elim (presence_cell x.column x.path y (subst (λ (k : Leaf). IsTrue (suits k y)) (leaf_as x xp xr) h)) [
      | inl e ↦ subst (λ (c : Cell). IsTrue (suits b c)) (sym (ap (cell_to x.rank b.rank) e ∙ unset_to x.rank b.rank)) refl
      | inr e ↦ subst (λ (c : Cell). IsTrue (suits b c)) (sym (ap (cell_to x.rank b.rank) e.1 ∙ to_bool x.rank b.rank (bool_cell e.0) xr br ∙ bool_to e.0)) (subst (λ (k : Leaf). IsTrue (suits k (bool_cell e.0))) (sym (leaf_as b bp br)) refl)
    ]

plain_leaf : (b : Leaf) → b.presence ≡ false → b ≡ (let l : Leaf = record { column = b.column; path = b.path; rank = b.rank; presence = false } in l)
plain_leaf b p = ap (λ (x : Bool). let l : Leaf = record { column = b.column; path = b.path; rank = b.rank; presence = x } in l) p

suits_absent : (b : Leaf) (a : Rank) (y : Cell) → b.presence ≡ false → IsOfRank a y → IsTrue (suits b (cell_to a b.rank y))
suits_absent b a y p h = by_set (is_unset y) refl
  where
    by_set : (u : Bool) → is_unset y ≡ u → IsTrue (suits b (cell_to a b.rank y))
    by_set true e = subst (λ (c : Cell). IsTrue (suits b c)) (sym (ap (cell_to a b.rank) (is_the_unset y e) ∙ unset_to a b.rank)) refl
    by_set false e = subst (λ (c : Cell). IsTrue (suits b c)) (sym (cell_as a b.rank y e))
        (subst (λ (k : Leaf). IsTrue (suits k (cell_of (at_rank b.rank (value_of a y))))) (sym (plain_leaf b p)) (suits_plain b.column b.path b.rank (at_rank b.rank (value_of a y)) (shape_at a b.rank (value_of a y) h)))

suits_lacking : (b : Leaf) (s p : Bool) → b.presence ≡ p → (p ≡ true → b.rank ≡ rank.Bool) → IsTrue (suits b (cond s (cond p (bool_cell false) null_cell) unset))
suits_lacking b false p e f = refl
suits_lacking b true true e f = subst (λ (k : Leaf). IsTrue (suits k (bool_cell false))) (sym (leaf_as b e (f refl))) refl
suits_lacking b true false e f = ap not e

fits_by : (cf cs : List (ℕ × Kind)) (cells : List Cell) (b : Leaf) (o : Option (Leaf × Cell)) → found_for b (with_cells (layout_of cf) cells) ≡ o → AreCells cf cells → IsTarget cf cs cells b
    → IsTrue (suits b (option_map_or (λ (c : Leaf × Cell). cell_to c.0.rank b.rank c.1) o (lacking b (with_cells (layout_of cf) cells))))
fits_by cf cs cells b None e a t = suits_lacking b (sets b.column (with_cells (layout_of cf) cells)) b.presence refl (marked_bool cs b t.mark)
fits_by cf cs cells b (Some x) e a t =
    let xs = with_cells (layout_of cf) cells in
    let f = find_held (λ (c : Leaf × Cell). same_leaf c.0 b) xs x e in
    let p = same_presence cf cs cells b x t f.0 f.1 in
    by_presence b.presence refl p (marked_bool cf x.0 (leaf_marked cf cells x a f.0)) (cell_suits cf cells x a f.0) ((lawful_fit (layout_of cf) cells a.lawful).ranks x f.0)
  where
    by_presence : (q : Bool) → b.presence ≡ q → x.0.presence ≡ b.presence → (x.0.presence ≡ true → x.0.rank ≡ rank.Bool) → IsTrue (suits x.0 x.1) → IsOfRank x.0.rank x.1 → IsTrue (suits b (cell_to x.0.rank b.rank x.1))
    by_presence true d p f h r = suits_present b x.1 x.0 d (marked_bool cs b t.mark d) (p ∙ d) (f (p ∙ d)) h
    by_presence false d p f h r = suits_absent b x.0.rank x.1 d r

-- a leaf's cell is unset where its column is
pub unset_as : (xs : Cells) (l : Leaf) → AreFit xs → is_unset (cell_for xs l) ≡ not (sets l.column xs)
unset_as xs l f = by_sets (sets l.column xs) refl
  where
    by_sets : (b : Bool) → sets l.column xs ≡ b → is_unset (cell_for xs l) ≡ not b
    by_sets true e =
        let h = any_held (sets_at l.column) xs e in
        let p = and_parts (h.0.0.column == l.column) (not (is_unset h.0.1)) h.2 in
        for_set_by xs l (found_for l xs) refl f h.0 h.1 (eqb-true h.0.0.column l.column p.0) (not-true (is_unset h.0.1) p.1)
    by_sets false e = by_unset (is_unset (cell_for xs l)) refl
      where
        by_unset : (u : Bool) → is_unset (cell_for xs l) ≡ u → is_unset (cell_for xs l) ≡ true
        by_unset true d = d
        by_unset false d = absurd (false≢true (sym e ∙ set_back_by xs l (found_for l xs) refl d))

-- ---- below an absent struct all is void

void_set : (l : Leaf) (y : Cell) → is_void l y ≡ true → is_unset y ≡ false
void_set l unset h = absurd (false≢true h)
void_set l null_cell h = refl
void_set l (bool_cell b) h = refl
void_set l (int_cell z) h = refl
void_set l (bytes_cell t) h = refl

void_lacking : (b : Leaf) (s p : Bool) → b.presence ≡ p → s ≡ true → is_void b (cond s (cond p (bool_cell false) null_cell) unset) ≡ true
void_lacking b true true e h = and_from _ _ e refl
void_lacking b true false e h = ap not e
void_lacking b false p e h = absurd (false≢true h)

void_goes : (b x : Leaf) (y : Cell) → x.presence ≡ b.presence → (b.presence ≡ true → b.rank ≡ rank.Bool) → (x.presence ≡ true → x.rank ≡ rank.Bool) → is_void x y ≡ true → is_void b (cell_to x.rank b.rank y) ≡ true
void_goes b x unset p f g h = absurd (false≢true h)
void_goes b x null_cell p f g h = ap (is_void b) (null_to x.rank b.rank) ∙ ap not (sym p) ∙ h
void_goes b x (bool_cell t) p f g h =
    let k = and_parts x.presence (not t) h in
    ap (is_void b) (to_bool x.rank b.rank (bool_cell t) (g k.0) (f (sym p ∙ k.0)) ∙ bool_to t) ∙ and_from _ _ (sym p ∙ k.0) k.1
void_goes b x (int_cell z) p f g h = absurd (false≢true h)
void_goes b x (bytes_cell t) p f g h = absurd (false≢true h)

-- an absent struct of the target is absent where the cells have its leaf
absent_back : (a x : Leaf) (y : Cell) → x.presence ≡ true → x.rank ≡ rank.Bool → a.rank ≡ rank.Bool → IsTrue (suits x y) → is_void a (cell_to x.rank a.rank y) ≡ true → says_absent x y ≡ true
absent_back a x y xp xr ar h v =
    elim (presence_cell x.column x.path y (subst (λ (k : Leaf). IsTrue (suits k y)) (leaf_as x xp xr) h)) [
      | inl e ↦ (let d : is_void a unset ≡ true = ap (is_void a) (sym (ap (cell_to x.rank a.rank) e ∙ unset_to x.rank a.rank)) ∙ v in absurd (false≢true d))
      | inr e ↦ (let d : is_void a (bool_cell e.0) ≡ true = ap (is_void a) (sym (ap (cell_to x.rank a.rank) e.1 ∙ to_bool x.rank a.rank (bool_cell e.0) xr ar ∙ bool_to e.0)) ∙ v in
          ap (says_absent x) e.1 ∙ and_from _ _ xp (and_from _ _ xp (and_parts a.presence (not e.0) d).1))
    ]

below_by : (cf cs : List (ℕ × Kind)) (cells : List Cell) (a b : Leaf) (o : Option (Leaf × Cell)) → found_for b (with_cells (layout_of cf) cells) ≡ o → AreCells cf cells → IsTarget cf cs cells a → IsTarget cf cs cells b → is_below a b ≡ true
    → says_absent a (cell_for (with_cells (layout_of cf) cells) a) ≡ true → is_void b (option_map_or (λ (c : Leaf × Cell). cell_to c.0.rank b.rank c.1) o (lacking b (with_cells (layout_of cf) cells))) ≡ true
below_by cf cs cells a b None e l ta tb h s =
    let xs = with_cells (layout_of cf) cells in
    let p = and_parts ((a.column == b.column) && nat_lt (length a.path) (length b.path)) (starts_with nat_eq b.path a.path) h in
    let k : a.column ≡ b.column = eqb-true a.column b.column (and_parts (a.column == b.column) (nat_lt (length a.path) (length b.path)) p.0).0 in
    let set : not (sets a.column xs) ≡ false = sym (unset_as xs a (lawful_fit (layout_of cf) cells l.lawful)) ∙ void_set a (cell_for xs a) (and_parts a.presence (is_void a (cell_for xs a)) s).1 in
    void_lacking b (sets b.column xs) b.presence refl (ap (λ (n : ℕ). sets n xs) (sym k) ∙ untrue (sets a.column xs) set)
  where
    untrue : (x : Bool) → not x ≡ false → x ≡ true
    untrue true d = refl
    untrue false d = sym d
below_by cf cs cells a b (Some y) e l ta tb h s =
    let ls = layout_of cf in
    let xs = with_cells ls cells in
    let p = and_parts ((a.column == b.column) && nat_lt (length a.path) (length b.path)) (starts_with nat_eq b.path a.path) h in
    let q = and_parts (a.column == b.column) (nat_lt (length a.path) (length b.path)) p.0 in
    let k : a.column ≡ b.column = eqb-true a.column b.column q.0 in
    let shorter : length a.path < length b.path = ltb-true (length a.path) (length b.path) q.1 in
    let f = find_held (λ (c : Leaf × Cell). same_leaf c.0 b) xs y e in
    let at = leaf_is y.0 b f.1 in
    let my = leaf_marked cf cells y l f.0 in
    let above : leaf_in cf a.column a.path ≡ Some (rank.Bool, true) = over_in cf a.column a.path b.path (y.0.rank, y.0.presence) (ap₂ (leaf_in cf) (k ∙ sym at.0) (sym at.1) ∙ my) shorter p.1 in
    let top = leaf_at a.column a.path (rank.Bool, true) in
    let c = with_leaf ls cells top (as_long cf cells l) (leaf_in_layout cf a.column a.path (rank.Bool, true) above) in
    let g = held_is_found (λ (c : Leaf × Cell). same_leaf c.0 a) xs (top, c.0) c.1 (leaf_same top a refl refl) in
    let z = g.0 in
    let fz = find_held (λ (c : Leaf × Cell). same_leaf c.0 a) xs z g.1 in
    let az = leaf_is z.0 a fz.1 in
    let d : Some (z.0.rank, z.0.presence) ≡ Some (rank.Bool, true) = sym (leaf_marked cf cells z l fz.0) ∙ ap₂ (leaf_in cf) az.0 az.1 ∙ above in
    let w : (z.0.rank, z.0.presence) ≡ (rank.Bool, true) = cc in
    let zr : z.0.rank ≡ rank.Bool = ap (λ (m : Mark). m.0) w in
    let zp : z.0.presence ≡ true = ap (λ (m : Mark). m.1) w in
    let sa = and_parts a.presence (is_void a (cell_for xs a)) s in
    let v : is_void a (cell_to z.0.rank a.rank z.1) ≡ true = ap (λ (o : Option (Leaf × Cell)). is_void a (option_map_or (λ (c : Leaf × Cell). cell_to c.0.rank a.rank c.1) o (lacking a xs))) (sym g.1) ∙ sa.1 in
    let absent : says_absent z.0 z.1 ≡ true = absent_back a z.0 z.1 zp zr (marked_bool cs a ta.mark sa.0) (cell_suits cf cells z l fz.0) v in
    let under : is_below z.0 y.0 ≡ true = and_from _ _ (and_from _ _ (eq-eqb z.0.column y.0.column (az.0 ∙ k ∙ sym at.0)) (ap₂ (λ (u t : List ℕ). nat_lt (length u) (length t)) az.1 at.1 ∙ q.1)) (ap₂ (λ (u t : List ℕ). starts_with nat_eq t u) az.1 at.1 ∙ p.1) in
    let agrees = cells_agree cf cells z y l fz.0 f.0 in
    let void : is_void y.0 y.1 ≡ true = so (is_below z.0 y.0 && says_absent z.0 z.1) (is_void y.0 y.1) (and_from _ _ under absent)
    (and_parts (not (z.0.column == y.0.column) || same_truth (is_unset z.1) (is_unset y.1)) (not (is_below z.0 y.0 && says_absent z.0 z.1) || is_void y.0 y.1) agrees).1 in
    void_goes b y.0 y.1 (same_presence cf cs cells b y tb f.0 f.1) (marked_bool cs b tb.mark) (marked_bool cf y.0 my) void
  where
    so : (x y : Bool) → x ≡ true → (not x || y) ≡ true → y ≡ true
    so true y g h = h
    so false y g h = absurd (false≢true g)

-- Lawful cells lie lawfully under the carriers.
pub goes_laid : (cf cs : List (ℕ × Kind)) (cells : List Cell) → AreCells cf cells → AreColumns cs → ((b : Leaf) → IsMarked cs b → IsServed (with_cells (layout_of cf) cells) cs b) → AreLaid (layout_of cs) (cell_for (with_cells (layout_of cf) cells))
goes_laid cf cs cells a c served =
    let xs = with_cells (layout_of cf) cells in
    let marks = all_marked cs c in
    let target : (b : Leaf) → Contains (layout_of cs) b → IsTarget cf cs cells b = λ b h. (let m = all_at (IsMarked cs) (layout_of cs) b marks h in let t : IsTarget cf cs cells b = record { mark = m; served = served b m } in t) in record {
      fits = λ b h. fits_by cf cs cells b (found_for b xs) refl a (target b h);
      agrees = λ x y h i. and_from _ _
          (when_same (x.column == y.column) (same_truth (is_unset (cell_for xs x)) (is_unset (cell_for xs y)))
          (λ e. let f = lawful_fit (layout_of cf) cells a.lawful in truths _ _ (unset_as xs x f ∙ ap (λ (n : ℕ). not (sets n xs)) (eqb-true x.column y.column e) ∙ sym (unset_as xs y f))))
          (implied (is_below x y) (says_absent x (cell_for xs x)) (is_void y (cell_for xs y)) (λ b s. below_by cf cs cells x y (found_for y xs) refl a (target x h) (target y i) b s));
    }

-- ---- one list of cells laid over another

pub over_fits : (l : Leaf) (x y : Cell) → IsTrue (suits l x) → IsTrue (suits l y) → IsTrue (suits l (over x y))
over_fits l x y h i = by_unset (is_unset y)
  where
    by_unset : (b : Bool) → IsTrue (suits l (cond b x y))
    by_unset true = h
    by_unset false = i

column_first : (a b : Leaf) → is_below a b ≡ true → (a.column == b.column) ≡ true
column_first a b h = (and_parts (a.column == b.column) (nat_lt (length a.path) (length b.path)) (and_parts ((a.column == b.column) && nat_lt (length a.path) (length b.path)) (starts_with nat_eq b.path a.path) h).0).0

pub alike : (a b : Leaf) (x y : Cell) → IsTrue (agree (a, x) (b, y)) → (a.column == b.column) ≡ true → is_unset x ≡ is_unset y
alike a b x y h e = same_truths (is_unset x) (is_unset y) (so (a.column == b.column) (same_truth (is_unset x) (is_unset y)) e (and_parts (not (a.column == b.column) || same_truth (is_unset x) (is_unset y)) (not (is_below a b && says_absent a x) || is_void b y) h).0)
  where
    so : (x y : Bool) → x ≡ true → (not x || y) ≡ true → y ≡ true
    so true y g h = h
    so false y g h = absurd (false≢true g)

    same_truths : (a b : Bool) → same_truth a b ≡ true → a ≡ b
    same_truths true b h = sym h
    same_truths false true h = h
    same_truths false false h = refl

pub over_agrees : (a b : Leaf) (x y u v : Cell) → IsTrue (agree (a, x) (b, y)) → IsTrue (agree (a, u) (b, v)) → IsTrue (agree (a, over x u) (b, over y v))
over_agrees a b x y u v h i = by_column (a.column == b.column) refl
  where
    apart : (a.column == b.column) ≡ false → is_below a b ≡ false
    apart e = ap (λ (t : Bool). t && nat_lt (length a.path) (length b.path) && starts_with nat_eq b.path a.path) e

    by_column : (t : Bool) → (a.column == b.column) ≡ t → IsTrue (agree (a, over x u) (b, over y v))
    by_column false e = and_from _ _ (ap (λ (t : Bool). not t || same_truth (is_unset (over x u)) (is_unset (over y v))) e) (ap (λ (t : Bool). not (t && says_absent a (over x u)) || is_void b (over y v)) (apart e))
    by_column true e = subst (λ (w : Cell). IsTrue (agree (a, over x u) (b, w))) (ap (λ (t : Bool). cond t y v) (alike a b u v i e)) (by_unset (is_unset u))
      where
        by_unset : (t : Bool) → IsTrue (agree (a, cond t x u) (b, cond t y v))
        by_unset true = h
        by_unset false = i

pub over_laid : (ls : List Leaf) (f g : Leaf → Cell) → AreLaid ls f → AreLaid ls g → AreLaid ls (λ l. over (f l) (g l))
over_laid ls f g a b = record {
  fits = λ l h. over_fits l (f l) (g l) (a.fits l h) (b.fits l h);
  agrees = λ x y h i. over_agrees x y (f x) (f y) (g x) (g y) (a.agrees x y h i) (b.agrees x y h i);
}
