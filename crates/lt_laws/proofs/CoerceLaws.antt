-- Cells from one layout to another: by way of wide enough carriers they are as at once, and what they make of rows goes along.
use Rattle.std.proofs.Common.{Bool, List, [], ap, ap₂, arith, cond, eq-eqb, eqb-true, false, length, refl, subst, suc, sym, true, ℕ, ◌∙◌, ◌∷◌, ◌≡◌, ◌≤◌}
use Rattle.std.proofs.lemmas.Bool.{and_from, and_parts, false≢true}
use Rattle.std.specs.Prelude.{Contains, IsTrue, None, Option, Some, find, if◌then◌else◌, map, not, option_map, ⊤, ◌&&◌, ◌==◌, ◌||◌}
use Rattle.std.specs.Str.{is_utf8}
use Rattle.std.specs.Option.{option_map_or}
use Rattle.std.specs.List.{AllByRecursion}
use Rattle.lt_terms.specs.Value.{Value, bool_value, bytes_value, fits_32, int_value, null_value, struct_value, text_value}
use Rattle.lt_terms.specs.Layout.{Cell, Leaf, bool_cell, bytes_cell, cell_of, cell_to, coerce, int_cell, is_unset, lacking, layout_of, null_cell, same_leaf, same_path, sets, suits, unset, value_of, with_cells}
use Rattle.lt_terms.specs.declared.Rank.{Rank}
use Rattle.lt_terms.specs.Conversion.{at_rank}
use Rattle.lt_terms.specs.Kind.{Kind, has_shape, plain, rank_number}
use Rattle.lt_terms.specs.declared.Op.{Op}
use Rattle.lt_tables.specs.Version.{RowVersion, coerce_all, effect_by, effect_of, overlay}
use Rattle.lt_lemmas.proofs.ConversionLemmas.{at_rank-null, fits_wider}
use Rattle.lt_lemmas.proofs.ListFacts.{find_held}
use Rattle.lt_lemmas.proofs.SoundLaws.{not-true}
use Rattle.lt_laws.proofs.ConversionLemmas.{bit_fits, bytes_shape, int_shape, step_bool, text_shape, through_rank}
use Rattle.lt_laws.proofs.CarrierLaws.{prim_up, shape_within}
use Rattle.lt_laws.proofs.FlattenLemmas.{cell_back}
use Rattle.lt_laws.proofs.LeafLaws.{AreColumns, Mark, found_leaf, leaf_at, leaf_found, leaf_in, leaf_in_layout, leaf_is}
use Rattle.lt_laws.proofs.ScanLaws.{any_of}
use Rattle.lt_laws.proofs.ListFacts.{any_held, from_map, in_map}
use Rattle.lt_terms.specs.declared.Rank.TheVariants as rank
use Rattle.lt_terms.specs.declared.Op.TheVariants as ops

-- ---- one cell

pub cell_set : (v : Value) → is_unset (cell_of v) ≡ false
cell_set null_value = refl
cell_set (bool_value b) = refl
cell_set (int_value z) = refl
cell_set (text_value t) = refl
cell_set (bytes_value t) = refl
cell_set (struct_value fs) = refl

pub unset_to : (a b : Rank) → cell_to a b unset ≡ unset
unfolding cell_to
unset_to a b = refl

pub null_to : (a b : Rank) → cell_to a b null_cell ≡ null_cell
unfolding cell_to
null_to a b = refl

-- a set cell goes by its value
pub cell_as : (a b : Rank) (y : Cell) → is_unset y ≡ false → cell_to a b y ≡ cell_of (at_rank b (value_of a y))
unfolding cell_to
cell_as a b unset e = absurd (false≢true (sym e))
cell_as a b null_cell e = ap cell_of (sym (at_rank-null b))
cell_as a b (bool_cell x) e = refl
cell_as a b (int_cell z) e = refl
cell_as a b (bytes_cell t) e = refl

pub to_set : (a b : Rank) (y : Cell) → is_unset (cell_to a b y) ≡ is_unset y
unfolding cell_to
to_set a b unset = refl
to_set a b null_cell = refl
to_set a b (bool_cell x) = cell_set (at_rank b (bool_value x))
to_set a b (int_cell z) = cell_set (at_rank b (int_value z))
to_set a b (bytes_cell t) = cell_set (at_rank b (value_of a (bytes_cell t)))

-- the value of a cell is null or of its leaf's rank
abbrev pub IsOfRank : Rank → Cell → Type 0
IsOfRank r y = IsTrue (has_shape (value_of r y) (plain r))

only_left : (b : Bool) → (b || false) ≡ true → b ≡ true
only_left true h = refl
only_left false h = h

pub suits_rank : (c : ℕ) (path : List ℕ) (r : Rank) (p : Bool) (y : Cell) → IsTrue (suits (record { column = c; path = path; rank = r; presence = p }) y) → IsOfRank r y
suits_rank c path r p unset h = refl
suits_rank c path r p null_cell h = refl
suits_rank c path rank.Bool p (bool_cell b) h = refl
suits_rank c path rank.Int32 p (int_cell z) h = only_left (fits_32 z) h
suits_rank c path rank.Int64 p (int_cell z) h = h
suits_rank c path rank.Text p (bytes_cell t) h = only_left (is_utf8 t) h
suits_rank c path rank.Bytes p (bytes_cell t) h = refl
suits_rank c path r p y h = absurd (false≢true h)

pub is_the_unset : (y : Cell) → is_unset y ≡ true → y ≡ unset
is_the_unset unset e = refl
is_the_unset null_cell e = absurd (false≢true e)
is_the_unset (bool_cell b) e = absurd (false≢true e)
is_the_unset (int_cell z) e = absurd (false≢true e)
is_the_unset (bytes_cell t) e = absurd (false≢true e)

-- a value of one rank, at another
pub shape_at : (a c : Rank) (v : Value) → IsTrue (has_shape v (plain a)) → IsTrue (has_shape (at_rank c v) (plain c))
shape_at a c null_value h = subst (λ (v : Value). IsTrue (has_shape v (plain c))) (sym (at_rank-null c)) refl
shape_at a c (bool_value b) h = subst (λ (v : Value). IsTrue (has_shape v (plain c))) (step_bool b c) (int_shape c _ (bit_fits b))
shape_at rank.Int32 c (int_value z) h = int_shape c z (fits_wider z h)
shape_at rank.Int64 c (int_value z) h = int_shape c z h
shape_at rank.Text c (text_value t) h = text_shape c t h
shape_at a c (bytes_value t) h = bytes_shape c t (is_utf8 t) refl
shape_at a c v h = absurd (false≢true h)

through_at : (a c b : Rank) (v : Value) → IsTrue (has_shape v (plain a)) → rank_number a ≤ rank_number c → at_rank b (at_rank c v) ≡ at_rank b v
through_at a c b v h l = through_rank v c b (prim_up v (plain a) (plain c) refl refl l (shape_within v (plain a) refl h))

-- by way of a rank that is not below its own a cell is as at once
pub to_twice : (a c b : Rank) (y : Cell) → IsOfRank a y → rank_number a ≤ rank_number c → cell_to c b (cell_to a c y) ≡ cell_to a b y
to_twice a c b y h l = by_set (is_unset y) refl
  where
    by_set : (u : Bool) → is_unset y ≡ u → cell_to c b (cell_to a c y) ≡ cell_to a b y
    by_set true e = let d : y ≡ unset = is_the_unset y e in
        ap (λ (z : Cell). cell_to c b (cell_to a c z)) d ∙ ap (cell_to c b) (unset_to a c) ∙ unset_to c b ∙ sym (unset_to a b) ∙ ap (cell_to a b) (sym d)
    by_set false e =
        let w = at_rank c (value_of a y) in
        ap (cell_to c b) (cell_as a c y e) ∙ cell_as c b (cell_of w) (cell_set w) ∙ ap (λ (v : Value). cell_of (at_rank b v)) (cell_back c w (shape_at a c (value_of a y) h))
        ∙ ap cell_of (through_at a c b (value_of a y) h l) ∙ sym (cell_as a b y e)

false_to : cell_to rank.Bool rank.Bool (bool_cell false) ≡ bool_cell false
unfolding cell_to at_rank
false_to = refl

-- ---- cells beside their leaves

abbrev pub Cells : Type 0
Cells = List (Leaf × Cell)

abbrev pub found_for : Leaf → Cells → Option (Leaf × Cell)
found_for b xs = find (λ c. same_leaf c.0 b) xs

-- the cell that a leaf gets of some cells
abbrev pub cell_for : Cells → Leaf → Cell
cell_for xs b = option_map_or (λ c. cell_to c.0.rank b.rank c.1) (found_for b xs) (lacking b xs)

abbrev pub beside : (Leaf → Cell) → List Leaf → Cells
beside h ls = map (λ l. (l, h l)) ls

pub with_own : (h : Leaf → Cell) (ls : List Leaf) → with_cells ls (map h ls) ≡ beside h ls
with_own h [] = refl
with_own h (l ∷ ls) = ap (λ (xs : Cells). (l, h l) ∷ xs) (with_own h ls)

found_beside_by : (h : Leaf → Cell) (l : Leaf) (b : Bool) (o : Option (Leaf × Cell)) (p : Option Leaf) → o ≡ option_map (λ l. (l, h l)) p → cond b (Some (l, h l)) o ≡ option_map (λ l. (l, h l)) (cond b (Some l) p)
found_beside_by h l true o p e = refl
found_beside_by h l false o p e = e

pub found_beside : (h : Leaf → Cell) (b : Leaf) (ls : List Leaf) → found_for b (beside h ls) ≡ option_map (λ l. (l, h l)) (find (λ l. same_leaf l b) ls)
found_beside h b [] = refl
found_beside h b (l ∷ ls) = found_beside_by h l (same_leaf l b) (found_for b (beside h ls)) (find (λ l. same_leaf l b) ls) (found_beside h b ls)

-- the leaves of one column are all unset or all set, and each has a value of its rank
pub record AreFit (xs : Cells) : Type 0 where
  pub agree : (a b : Leaf × Cell) → Contains xs a → Contains xs b → a.0.column ≡ b.0.column → is_unset a.1 ≡ is_unset b.1
  pub ranks : (a : Leaf × Cell) → Contains xs a → IsOfRank a.0.rank a.1

-- a leaf stands in columns at the same place, with at least its rank and the same presence
abbrev pub IsWideFor : List (ℕ × Kind) → Leaf → Type 0
IsWideFor cs l = (m : Mark) × (leaf_in cs l.column l.path ≡ Some m) × (rank_number l.rank ≤ rank_number m.0) × (m.1 ≡ l.presence)

-- at its place the columns have the same presence, and a presence leaf is a Bool
abbrev pub IsMarkedAs : List (ℕ × Kind) → Leaf → Type 0
IsMarkedAs cs b = (m : Mark) → leaf_in cs b.column b.path ≡ Some m → (m.1 ≡ b.presence) × (b.presence ≡ true → (b.rank ≡ rank.Bool) × (m.0 ≡ rank.Bool))

pub both_ways : (a b : Bool) → (a ≡ true → b ≡ true) → (b ≡ true → a ≡ true) → a ≡ b
both_ways true true f g = refl
both_ways true false f g = sym (f refl)
both_ways false true f g = g refl
both_ways false false f g = refl

abbrev pub sets_at : ℕ → Leaf × Cell → Bool
sets_at n c = (c.0.column == n) && not (is_unset c.1)

-- a leaf's cell is set where its column is
pub for_set_by : (xs : Cells) (l : Leaf) (o : Option (Leaf × Cell)) → found_for l xs ≡ o → AreFit xs → (a : Leaf × Cell) → Contains xs a → a.0.column ≡ l.column → is_unset a.1 ≡ false → is_unset (option_map_or (λ c. cell_to c.0.rank l.rank c.1) o (lacking l xs)) ≡ false
for_set_by xs l (Some c) e f a h k s =
    let g = find_held (λ c. same_leaf c.0 l) xs c e in
    to_set c.0.rank l.rank c.1 ∙ f.agree c a g.0 h ((leaf_is c.0 l g.1).0 ∙ sym k) ∙ s
for_set_by xs l None e f a h k s =
    let t : sets l.column xs ≡ true = any_of (sets_at l.column) xs a h (and_from _ _ (eq-eqb a.0.column l.column k) (ap not s)) in
    ap (λ (b : Bool). is_unset (cond b (if l.presence then bool_cell false else null_cell) unset)) t ∙ lacked l.presence
  where
    lacked : (p : Bool) → is_unset (cond p (bool_cell false) null_cell) ≡ false
    lacked true = refl
    lacked false = refl

pub set_back_by : (xs : Cells) (l : Leaf) (o : Option (Leaf × Cell)) → found_for l xs ≡ o → is_unset (option_map_or (λ c. cell_to c.0.rank l.rank c.1) o (lacking l xs)) ≡ false → sets l.column xs ≡ true
set_back_by xs l (Some c) e s =
    let g = find_held (λ c. same_leaf c.0 l) xs c e in
    any_of (sets_at l.column) xs c g.0 (and_from _ _ (eq-eqb c.0.column l.column (leaf_is c.0 l g.1).0) (ap not (sym (to_set c.0.rank l.rank c.1) ∙ s)))
set_back_by xs l None e s = by_sets (sets l.column xs) refl
  where
    by_sets : (b : Bool) → sets l.column xs ≡ b → sets l.column xs ≡ true
    by_sets true d = d
    by_sets false d = absurd (false≢true (sym s ∙ ap (λ (b : Bool). is_unset (cond b (if l.presence then bool_cell false else null_cell) unset)) d))

-- under wide enough columns the same columns are set
sets_same : (xs : Cells) (cs : List (ℕ × Kind)) (n : ℕ) → AreFit xs → ((a : Leaf × Cell) → Contains xs a → a.0.column ≡ n → IsWideFor cs a.0) → sets n (beside (cell_for xs) (layout_of cs)) ≡ sets n xs
sets_same xs cs n f wide = both_ways (sets n (beside (cell_for xs) (layout_of cs))) (sets n xs)
    (λ h.
    let e = any_held (sets_at n) (beside (cell_for xs) (layout_of cs)) h in
    let p = and_parts (e.0.0.column == n) (not (is_unset e.0.1)) e.2 in
    let m = from_map (λ l. (l, cell_for xs l)) (layout_of cs) e.0 e.1 in
    let k : m.0.column ≡ n = ap (λ (c : Leaf × Cell). c.0.column) m.2 ∙ eqb-true e.0.0.column n p.0 in
    let s : is_unset (cell_for xs m.0) ≡ false = ap (λ (c : Leaf × Cell). is_unset c.1) m.2 ∙ not-true (is_unset e.0.1) p.1 in
    ap (λ (i : ℕ). sets i xs) (sym k) ∙ set_back_by xs m.0 (found_for m.0 xs) refl s)
    (λ h.
    let e = any_held (sets_at n) xs h in
    let p = and_parts (e.0.0.column == n) (not (is_unset e.0.1)) e.2 in
    let k = eqb-true e.0.0.column n p.0 in
    let w = wide e.0 e.1 k in
    let l = leaf_at e.0.0.column e.0.0.path w.0 in
    let i : Contains (layout_of cs) l = leaf_in_layout cs e.0.0.column e.0.0.path w.0 w.1 in
    let s : is_unset (cell_for xs l) ≡ false = for_set_by xs l (found_for l xs) refl f e.0 e.1 refl (not-true (is_unset e.0.1) p.1) in
    any_of (sets_at n) (beside (cell_for xs) (layout_of cs)) (l, cell_for xs l) (in_map (λ l. (l, cell_for xs l)) (layout_of cs) l i) (and_from _ _ p.0 (ap not s)))

-- ---- one leaf, by way of wide enough columns

lacking_to : (c b : Leaf) (xs : Cells) → c.column ≡ b.column → c.presence ≡ b.presence → (b.presence ≡ true → (b.rank ≡ rank.Bool) × (c.rank ≡ rank.Bool)) → cell_to c.rank b.rank (lacking c xs) ≡ lacking b xs
lacking_to c b xs e d f = ap (λ (i : ℕ). cell_to c.rank b.rank (cond (sets i xs) (cond c.presence (bool_cell false) null_cell) unset)) e
    ∙ ap (λ (p : Bool). cell_to c.rank b.rank (cond (sets b.column xs) (cond p (bool_cell false) null_cell) unset)) d ∙ by_cases (sets b.column xs) b.presence f
  where
    by_cases : (s p : Bool) → (p ≡ true → (b.rank ≡ rank.Bool) × (c.rank ≡ rank.Bool)) → cell_to c.rank b.rank (cond s (cond p (bool_cell false) null_cell) unset) ≡ cond s (cond p (bool_cell false) null_cell) unset
    by_cases true true g = let r = g refl in ap₂ (λ (x y : Rank). cell_to x y (bool_cell false)) r.1 r.0 ∙ false_to
    by_cases true false g = null_to c.rank b.rank
    by_cases false p g = unset_to c.rank b.rank

pub same_place : (xs : Cells) (c b : Leaf) → c.column ≡ b.column → c.path ≡ b.path → found_for c xs ≡ found_for b xs
same_place xs c b e d = ap₂ (λ (n : ℕ) (p : List ℕ). find (λ (a : Leaf × Cell). (a.0.column == n) && same_path a.0.path p) xs) e d

at_found : (xs : Cells) (cs : List (ℕ × Kind)) (b c : Leaf) (o : Option (Leaf × Cell)) → found_for b xs ≡ o → AreFit xs → leaf_in cs b.column b.path ≡ Some (c.rank, c.presence) → c.column ≡ b.column → c.path ≡ b.path
    → ((a : Leaf × Cell) → Contains xs a → a.0.column ≡ b.column → IsWideFor cs a.0) → IsMarkedAs cs b → cell_to c.rank b.rank (option_map_or (λ a. cell_to a.0.rank c.rank a.1) o (lacking c xs)) ≡ option_map_or (λ a. cell_to a.0.rank b.rank a.1) o (lacking b xs)
at_found xs cs b c (Some a) e f m k d wide mark =
    let g = find_held (λ c. same_leaf c.0 b) xs a e in
    let p = leaf_is a.0 b g.1 in
    let w = wide a g.0 p.0 in
    let s : Some w.0 ≡ Some (c.rank, c.presence) = sym w.1 ∙ ap₂ (leaf_in cs) p.0 p.1 ∙ m in
    let t : w.0 ≡ (c.rank, c.presence) = cc in
    to_twice a.0.rank c.rank b.rank a.1 (f.ranks a g.0) (subst (λ (x : Mark). rank_number a.0.rank ≤ rank_number x.0) t w.2)
at_found xs cs b c None e f m k d wide mark = let q = mark (c.rank, c.presence) m in lacking_to c b xs k q.0 q.1

at_none : (xs : Cells) (cs : List (ℕ × Kind)) (b : Leaf) (o : Option (Leaf × Cell)) → found_for b xs ≡ o → AreFit xs → AreColumns cs → find (λ l. same_leaf l b) (layout_of cs) ≡ None → ((a : Leaf × Cell) → Contains xs a → a.0.column ≡ b.column → IsWideFor cs a.0)
    → lacking b (beside (cell_for xs) (layout_of cs)) ≡ option_map_or (λ a. cell_to a.0.rank b.rank a.1) o (lacking b xs)
at_none xs cs b (Some a) e f cols n wide =
    let g = find_held (λ c. same_leaf c.0 b) xs a e in
    let p = leaf_is a.0 b g.1 in
    let w = wide a g.0 p.0 in
    let h = leaf_found cs b w.0 cols (ap₂ (leaf_in cs) (sym p.0) (sym p.1) ∙ w.1) in
    let d : None ≡ Some h.0 = sym n ∙ h.1 in cc
at_none xs cs b None e f cols n wide = ap (λ (t : Bool). cond t (cond b.presence (bool_cell false) null_cell) unset) (sets_same xs cs b.column f wide)

cell_by : (xs : Cells) (cs : List (ℕ × Kind)) (b : Leaf) (o : Option Leaf) → find (λ l. same_leaf l b) (layout_of cs) ≡ o → AreFit xs → AreColumns cs → ((a : Leaf × Cell) → Contains xs a → a.0.column ≡ b.column → IsWideFor cs a.0) → IsMarkedAs cs b
    → option_map_or (λ (c : Leaf × Cell). cell_to c.0.rank b.rank c.1) (option_map (λ l. (l, cell_for xs l)) o) (lacking b (beside (cell_for xs) (layout_of cs))) ≡ cell_for xs b
cell_by xs cs b (Some c) e f cols wide mark =
    let p = leaf_is c b (find_held (λ l. same_leaf l b) (layout_of cs) c e).1 in
    ap (λ (o : Option (Leaf × Cell)). cell_to c.rank b.rank (option_map_or (λ a. cell_to a.0.rank c.rank a.1) o (lacking c xs))) (same_place xs c b p.0 p.1)
    ∙ at_found xs cs b c (found_for b xs) refl f (found_leaf cs b c cols e) p.0 p.1 wide mark
cell_by xs cs b None e f cols wide mark = at_none xs cs b (found_for b xs) refl f cols e wide

pub cell_twice : (xs : Cells) (cs : List (ℕ × Kind)) (b : Leaf) → AreFit xs → AreColumns cs → ((a : Leaf × Cell) → Contains xs a → a.0.column ≡ b.column → IsWideFor cs a.0) → IsMarkedAs cs b
    → cell_for (beside (cell_for xs) (layout_of cs)) b ≡ cell_for xs b
cell_twice xs cs b f cols wide mark = ap (λ (o : Option (Leaf × Cell)). option_map_or (λ (c : Leaf × Cell). cell_to c.0.rank b.rank c.1) o (lacking b (beside (cell_for xs) (layout_of cs)))) (found_beside (cell_for xs) b (layout_of cs))
    ∙ cell_by xs cs b (find (λ l. same_leaf l b) (layout_of cs)) refl f cols wide mark

-- ---- all leaves

-- a leaf of the target, for cells under one layout by way of columns
abbrev pub IsServed : Cells → List (ℕ × Kind) → Leaf → Type 0
IsServed xs cs b = ((a : Leaf × Cell) → Contains xs a → a.0.column ≡ b.column → IsWideFor cs a.0) × IsMarkedAs cs b

pub map_same : {A B : Type 0} (f g : A → B) (P : A → Type 0) (xs : List A) → ((x : A) → P x → f x ≡ g x) → AllByRecursion P xs → map f xs ≡ map g xs
map_same f g P [] h a = refl
map_same f g P (x ∷ xs) h a = ap₂ (λ y ys. y ∷ ys) (h x a.0) (map_same f g P xs h a.1)

-- by way of wide enough columns cells are as at once
pub coerce_twice : (from to : List Leaf) (cs : List (ℕ × Kind)) (cells : List Cell) → AreFit (with_cells from cells) → AreColumns cs → AllByRecursion (IsServed (with_cells from cells) cs) to
    → coerce (layout_of cs) to (coerce from (layout_of cs) cells) ≡ coerce from to cells
unfolding coerce
coerce_twice from to cs cells f cols served =
    let xs = with_cells from cells in
    ap (λ (ys : Cells). map (cell_for ys) to) (with_own (cell_for xs) (layout_of cs))
    ∙ map_same (cell_for (beside (cell_for xs) (layout_of cs))) (cell_for xs) (IsServed xs cs) to (λ b s. cell_twice xs cs b f cols s.0 s.1) served

-- ---- what cells make of rows goes along

abbrev pub over : Cell → Cell → Cell
over a b = if is_unset b then a else b

-- of two lists of cells under one layout, and the second laid over the first
data LaidAt (b : Leaf) (o p q : Option (Leaf × Cell)) : Type 0 where
  laid_none : o ≡ None → p ≡ None → q ≡ None → LaidAt b o p q
  laid_some : (l : Leaf) (x y : Cell) → o ≡ Some (l, x) → p ≡ Some (l, y) → q ≡ Some (l, over x y) → LaidAt b o p q

laid_by : (b l : Leaf) (x y : Cell) (o p q : Option (Leaf × Cell)) (t : Bool) → LaidAt b o p q → LaidAt b (cond t (Some (l, x)) o) (cond t (Some (l, y)) p) (cond t (Some (l, over x y)) q)
laid_by b l x y o p q true h = laid_some l x y refl refl refl
laid_by b l x y o p q false h = h

laid_at : (b : Leaf) (ls : List Leaf) (xs ys : List Cell) → length xs ≡ length ls → length ys ≡ length ls → LaidAt b (found_for b (with_cells ls xs)) (found_for b (with_cells ls ys)) (found_for b (with_cells ls (overlay xs ys)))
laid_at b [] xs ys e f = laid_none refl refl refl
laid_at b (l ∷ ls) [] ys e f = absurd (omega (arith, e))
laid_at b (l ∷ ls) (x ∷ xs) [] e f = absurd (omega (arith, f))
laid_at b (l ∷ ls) (x ∷ xs) (y ∷ ys) e f = laid_by b l x y (found_for b (with_cells ls xs)) (found_for b (with_cells ls ys)) (found_for b (with_cells ls (overlay xs ys))) (same_leaf l b) (laid_at b ls xs ys (omega (arith, e)) (omega (arith, f)))

over_unset : (x y : Cell) → is_unset (over x y) ≡ (is_unset x && is_unset y)
over_unset x y = by_unset (is_unset y) refl
  where
    and_true : (b : Bool) → b ≡ (b && true)
    and_true true = refl
    and_true false = refl

    and_false : (b : Bool) → false ≡ (b && false)
    and_false true = refl
    and_false false = refl

    by_unset : (b : Bool) → is_unset y ≡ b → is_unset (cond b x y) ≡ (is_unset x && b)
    by_unset true e = and_true (is_unset x)
    by_unset false e = e ∙ and_false (is_unset x)

sets_by : (a u v r s : Bool) → ((a && not (u && v)) || (r || s)) ≡ (((a && not u) || r) || ((a && not v) || s))
sets_by true true true r s = refl
sets_by true true false true s = refl
sets_by true true false false s = refl
sets_by true false true r s = refl
sets_by true false false r s = refl
sets_by false u v r s = refl

sets_overlay : (n : ℕ) (ls : List Leaf) (xs ys : List Cell) → length xs ≡ length ls → length ys ≡ length ls → sets n (with_cells ls (overlay xs ys)) ≡ (sets n (with_cells ls xs) || sets n (with_cells ls ys))
sets_overlay n [] xs ys e f = refl
sets_overlay n (l ∷ ls) [] ys e f = absurd (omega (arith, e))
sets_overlay n (l ∷ ls) (x ∷ xs) [] e f = absurd (omega (arith, f))
sets_overlay n (l ∷ ls) (x ∷ xs) (y ∷ ys) e f =
    ap₂ (λ (u r : Bool). ((l.column == n) && not u) || r) (over_unset x y) (sets_overlay n ls xs ys (omega (arith, e)) (omega (arith, f)))
    ∙ sets_by (l.column == n) (is_unset x) (is_unset y) (sets n (with_cells ls xs)) (sets n (with_cells ls ys))

over_to : (a b : Rank) (x y : Cell) → cell_to a b (over x y) ≡ over (cell_to a b x) (cell_to a b y)
over_to a b x y = by_unset (is_unset y) refl ∙ ap (λ (u : Bool). cond u (cell_to a b x) (cell_to a b y)) (sym (to_set a b y))
  where
    by_unset : (u : Bool) → is_unset y ≡ u → cell_to a b (cond u x y) ≡ cond u (cell_to a b x) (cell_to a b y)
    by_unset true e = refl
    by_unset false e = refl

over_lacking : (p r s : Bool) → cond (r || s) (cond p (bool_cell false) null_cell) unset ≡ over (cond r (cond p (bool_cell false) null_cell) unset) (cond s (cond p (bool_cell false) null_cell) unset)
over_lacking true true true = refl
over_lacking true true false = refl
over_lacking true false true = refl
over_lacking true false false = refl
over_lacking false true true = refl
over_lacking false true false = refl
over_lacking false false true = refl
over_lacking false false false = refl

over_for : (b : Leaf) (ls : List Leaf) (xs ys : List Cell) → length xs ≡ length ls → length ys ≡ length ls → cell_for (with_cells ls (overlay xs ys)) b ≡ over (cell_for (with_cells ls xs) b) (cell_for (with_cells ls ys) b)
over_for b ls xs ys e f = by_laid (found_for b (with_cells ls xs)) (found_for b (with_cells ls ys)) (found_for b (with_cells ls (overlay xs ys))) (laid_at b ls xs ys e f)
  where
    by_laid : (o p q : Option (Leaf × Cell)) → LaidAt b o p q → option_map_or (λ (c : Leaf × Cell). cell_to c.0.rank b.rank c.1) q (lacking b (with_cells ls (overlay xs ys)))
        ≡ over (option_map_or (λ (c : Leaf × Cell). cell_to c.0.rank b.rank c.1) o (lacking b (with_cells ls xs))) (option_map_or (λ (c : Leaf × Cell). cell_to c.0.rank b.rank c.1) p (lacking b (with_cells ls ys)))
    by_laid o p q (laid_none x y z) = ap (λ (w : Option (Leaf × Cell)). option_map_or (λ (c : Leaf × Cell). cell_to c.0.rank b.rank c.1) w (lacking b (with_cells ls (overlay xs ys)))) z
        ∙ ap (λ (t : Bool). cond t (cond b.presence (bool_cell false) null_cell) unset) (sets_overlay b.column ls xs ys e f)
        ∙ over_lacking b.presence (sets b.column (with_cells ls xs)) (sets b.column (with_cells ls ys))
        ∙ sym (ap₂ (λ (u v : Option (Leaf × Cell)). over (option_map_or (λ (c : Leaf × Cell). cell_to c.0.rank b.rank c.1) u (lacking b (with_cells ls xs))) (option_map_or (λ (c : Leaf × Cell). cell_to c.0.rank b.rank c.1) v (lacking b (with_cells ls ys)))) x y)
    by_laid o p q (laid_some l u v x y z) = ap (λ (w : Option (Leaf × Cell)). option_map_or (λ (c : Leaf × Cell). cell_to c.0.rank b.rank c.1) w (lacking b (with_cells ls (overlay xs ys)))) z
        ∙ over_to l.rank b.rank u v
        ∙ sym (ap₂ (λ (u v : Option (Leaf × Cell)). over (option_map_or (λ (c : Leaf × Cell). cell_to c.0.rank b.rank c.1) u (lacking b (with_cells ls xs))) (option_map_or (λ (c : Leaf × Cell). cell_to c.0.rank b.rank c.1) v (lacking b (with_cells ls ys)))) x y)

pub overlay_maps : (f g : Leaf → Cell) (ls : List Leaf) → map (λ b. over (f b) (g b)) ls ≡ overlay (map f ls) (map g ls)
overlay_maps f g [] = refl
overlay_maps f g (l ∷ ls) = ap (λ (r : List Cell). over (f l) (g l) ∷ r) (overlay_maps f g ls)

map_alike : {A B : Type 0} (f g : A → B) (xs : List A) → ((x : A) → f x ≡ g x) → map f xs ≡ map g xs
map_alike f g [] h = refl
map_alike f g (x ∷ xs) h = ap₂ (λ y ys. y ∷ ys) (h x) (map_alike f g xs h)

pub coerce_overlay : (from to : List Leaf) (xs ys : List Cell) → length xs ≡ length from → length ys ≡ length from → coerce from to (overlay xs ys) ≡ overlay (coerce from to xs) (coerce from to ys)
unfolding coerce
coerce_overlay from to xs ys e f = map_alike (cell_for (with_cells from (overlay xs ys))) (λ b. over (cell_for (with_cells from xs) b) (cell_for (with_cells from ys) b)) to (λ b. over_for b from xs ys e f)
    ∙ overlay_maps (cell_for (with_cells from xs)) (cell_for (with_cells from ys)) to

pub overlay_length : (xs ys : List Cell) → length xs ≡ length ys → length (overlay xs ys) ≡ length xs
overlay_length [] ys e = sym e
overlay_length (x ∷ xs) [] e = refl
overlay_length (x ∷ xs) (y ∷ ys) e = ap suc (overlay_length xs ys (omega (arith, e)))

-- rows in cells of a length
abbrev pub RowFits : ℕ → Option (List Cell) → Type 0
RowFits n None = ⊤
RowFits n (Some cells) = length cells ≡ n

effect_fits : (n : ℕ) (o : Op) (cells : List Cell) (row : Option (List Cell)) → length cells ≡ n → RowFits n row → RowFits n (effect_by o cells row)
effect_fits n ops.Insert cells row e r = e
effect_fits n ops.Delete cells row e r = tt
effect_fits n ops.Update cells None e r = tt
effect_fits n ops.Update cells (Some was) e r = overlay_length was cells (r ∙ sym e) ∙ r

effect_along : (from to : List Leaf) (o : Op) (cells : List Cell) (row : Option (List Cell)) → length cells ≡ length from → RowFits (length from) row → effect_by o (coerce from to cells) (option_map (coerce from to) row) ≡ option_map (coerce from to) (effect_by o cells row)
effect_along from to ops.Insert cells row e r = refl
effect_along from to ops.Delete cells row e r = refl
effect_along from to ops.Update cells None e r = refl
effect_along from to ops.Update cells (Some was) e r = ap Some (sym (coerce_overlay from to was cells r e))

abbrev pub AreLong : ℕ → List RowVersion → Type 0
AreLong n vs = AllByRecursion (λ v. length v.cells ≡ n) vs

pub effect_of_fits : (n : ℕ) (vs : List RowVersion) → AreLong n vs → RowFits n (effect_of vs)
effect_of_fits n [] a = tt
effect_of_fits n (v ∷ vs) a = effect_fits n v.op v.cells (effect_of vs) a.0 (effect_of_fits n vs a.1)

-- the effect of coerced versions is their effect, coerced
pub effect_coerced : (from to : List Leaf) (vs : List RowVersion) → AreLong (length from) vs → effect_of (coerce_all from to vs) ≡ option_map (coerce from to) (effect_of vs)
effect_coerced from to [] a = refl
effect_coerced from to (v ∷ vs) a = ap (effect_by v.op (coerce from to v.cells)) (effect_coerced from to vs a.1) ∙ effect_along from to v.op v.cells (effect_of vs) a.0 (effect_of_fits (length from) vs a.1)

-- ---- as many cells as leaves

pub map_length : {A B : Type 0} (f : A → B) (xs : List A) → length (map f xs) ≡ length xs
map_length f [] = refl
map_length f (x ∷ xs) = ap suc (map_length f xs)

pub coerce_length : (from to : List Leaf) (cells : List Cell) → length (coerce from to cells) ≡ length to
unfolding coerce
coerce_length from to cells = map_length _ to
