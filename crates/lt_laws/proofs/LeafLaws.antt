-- Where a leaf stands in a layout: by its column's kind and its path alone.
use Rattle.std.proofs.Common.{Bool, List, [], ap, append-nil, append_assoc, ap₂, arith, cond, eq-eqb, eqb-true, false, ltb-true, ne_eqb, refl, subst, suc, sym, true, ℕ, ◌++◌, ◌<◌, ◌∙◌, ◌∷◌, ◌≡◌}
use Rattle.std.specs.Prelude.{Contains, IsTrue, None, Option, Some, find, map, nat_lt, option_and_then, ◌&&◌, ◌==◌}
use Rattle.std.specs.List.{AllByRecursion}
use Rattle.std.proofs.lemmas.Bool.{and_from, and_parts, false≢true}
use Rattle.lt_terms.specs.declared.Rank.{Rank}
use Rattle.lt_terms.specs.Kind.{FieldKinds, Kind, enumeration, field_kind, kind_at, kinds_of, no_kinds, plain, structured}
use Rattle.lt_terms.specs.Layout.{Leaf, field_leaves, layout_of, leaves, same_leaf, same_path}
use Rattle.lt_terms.specs.Value.{rises_above}
use Rattle.lt_codecs.proofs.ListFacts.{all_append, all_both, all_map}
use Rattle.lt_lemmas.proofs.ConversionLemmas.{are_rising, is_rising}
use Rattle.lt_lemmas.proofs.ListFacts.{find_held}
use Rattle.lt_laws.proofs.CarrierLaws.{TailOf, tail_here, tail_next}
use Rattle.lt_laws.proofs.ListFacts.{all_at, contains_front, contains_rest, flat_held, held_is_found}
use Rattle.lt_laws.proofs.ScanLemmas.{kind_for}
use Rattle.lt_terms.specs.declared.Rank.TheVariants as rank
use Rattle.lt_laws.proofs.FlattenLemmas.{path_self}

-- ---- leaves by their path

-- a leaf's rank, and whether it is a presence leaf
abbrev pub Mark : Type 0
Mark = Rank × Bool

abbrev pub mark_of : Kind → Mark
mark_of (plain r) = (r, false)
mark_of (enumeration names) = (rank.Int32, false)
mark_of (structured ks) = (rank.Bool, true)

-- the leaf of a kind at a path
abbrev pub leaf_of : Kind → List ℕ → Option Mark
leaf_of k [] = Some (mark_of k)
leaf_of k (n ∷ path) = option_and_then (λ k. leaf_of k path) (kind_at n (kinds_of k))

abbrev pub leaf_at : ℕ → List ℕ → Mark → Leaf
leaf_at column path m = record { column = column; path = path; rank = m.0; presence = m.1 }

-- the leaf is one of the kind's, below a path
pub record IsLeafOf (c : ℕ) (p : List ℕ) (k : Kind) (l : Leaf) : Type 0 where
  pub column : l.column ≡ c
  pub rest : List ℕ
  pub path : l.path ≡ p ++ rest
  pub mark : leaf_of k rest ≡ Some (l.rank, l.presence)

field_leaf : (c : ℕ) (p : List ℕ) (n : ℕ) (k : Kind) (all : FieldKinds) (l : Leaf) → kind_at n all ≡ Some k → IsLeafOf c (p ++ n ∷ []) k l → IsLeafOf c p (structured all) l
field_leaf c p n k all l e h = record {
  column = h.column;
  rest = n ∷ h.rest;
  path = h.path ∙ append_assoc p (n ∷ []) h.rest;
  mark = ap (option_and_then (λ k. leaf_of k h.rest)) e ∙ h.mark;
}

mutual
  pub all_leaves : (c : ℕ) (p : List ℕ) (k : Kind) → IsTrue (is_rising k) → AllByRecursion (IsLeafOf c p k) (leaves c p k)
  all_leaves c p (plain r) up = (record { column = refl; rest = []; path = sym (append-nil p); mark = refl }, tt)
  all_leaves c p (enumeration names) up = (record { column = refl; rest = []; path = sym (append-nil p); mark = refl }, tt)
  all_leaves c p (structured ks) up = (record { column = refl; rest = []; path = sym (append-nil p); mark = refl }, all_field_leaves c p ks ks 0 up (λ n l. refl))

  all_field_leaves : (c : ℕ) (p : List ℕ) (all ks : FieldKinds) (low : ℕ) → IsTrue (are_rising low ks) → TailOf low all ks → AllByRecursion (IsLeafOf c p (structured all)) (field_leaves c p ks)
  all_field_leaves c p all no_kinds low up t = tt
  all_field_leaves c p all (field_kind n name k ks) low up t =
      let u = and_parts (nat_lt low n && is_rising k) (are_rising n ks) up in
      let w = and_parts (nat_lt low n) (is_rising k) u.0 in
      let l : low < n = ltb-true low n w.0 in
      all_append (IsLeafOf c p (structured all)) (leaves c (p ++ n ∷ []) k) (field_leaves c p ks)
      (all_map (IsLeafOf c (p ++ n ∷ []) k) (IsLeafOf c p (structured all)) (leaves c (p ++ n ∷ []) k) (λ x. field_leaf c p n k all x (tail_here low n name k all ks t l)) (all_leaves c (p ++ n ∷ []) k w.1))
      (all_field_leaves c p all ks n u.1 (tail_next low n name k all ks t l))

field_by : (c : ℕ) (p : List ℕ) (j : ℕ) (k : Kind) (others : List Leaf) (n : ℕ) (q : List ℕ) (m : Mark) (b : Bool) → (n == j) ≡ b → (o : Option Kind) → option_and_then (λ k. leaf_of k q) (cond b (Some k) o) ≡ Some m
    → (leaf_of k q ≡ Some m → Contains (leaves c (p ++ j ∷ []) k) (leaf_at c ((p ++ j ∷ []) ++ q) m)) → (option_and_then (λ k. leaf_of k q) o ≡ Some m → Contains others (leaf_at c (p ++ n ∷ q) m))
    → Contains (leaves c (p ++ j ∷ []) k ++ others) (leaf_at c (p ++ n ∷ q) m)
field_by c p j k others n q m true e o h f g = contains_front (leaves c (p ++ j ∷ []) k) others (leaf_at c (p ++ n ∷ q) m)
    (subst (λ (z : List ℕ). Contains (leaves c (p ++ j ∷ []) k) (leaf_at c z m)) (append_assoc p (j ∷ []) q ∙ ap (λ (i : ℕ). p ++ i ∷ q) (sym (eqb-true n j e))) (f h))
field_by c p j k others n q m false e o h f g = contains_rest (leaves c (p ++ j ∷ []) k) others (leaf_at c (p ++ n ∷ q) m) (g h)

mutual
  -- each leaf of a kind stands among its leaves
  pub leaf_stands : (c : ℕ) (p : List ℕ) (k : Kind) (q : List ℕ) (m : Mark) → leaf_of k q ≡ Some m → Contains (leaves c p k) (leaf_at c (p ++ q) m)
  leaf_stands c p (plain r) [] m e = (0, omega arith, ap₂ (λ (z : List ℕ) (x : Mark). leaf_at c z x) (sym (append-nil p)) (cc))
  leaf_stands c p (enumeration names) [] m e = (0, omega arith, ap₂ (λ (z : List ℕ) (x : Mark). leaf_at c z x) (sym (append-nil p)) (cc))
  leaf_stands c p (structured ks) [] m e = (0, omega arith, ap₂ (λ (z : List ℕ) (x : Mark). leaf_at c z x) (sym (append-nil p)) (cc))
  leaf_stands c p (plain r) (n ∷ q) m e = cc
  leaf_stands c p (enumeration names) (n ∷ q) m e = cc
  leaf_stands c p (structured ks) (n ∷ q) m e = let h = field_stands c p ks n q m e in (suc h.0, omega (arith, h.1), h.2)

  field_stands : (c : ℕ) (p : List ℕ) (ks : FieldKinds) (n : ℕ) (q : List ℕ) (m : Mark) → option_and_then (λ k. leaf_of k q) (kind_at n ks) ≡ Some m → Contains (field_leaves c p ks) (leaf_at c (p ++ n ∷ q) m)
  field_stands c p no_kinds n q m e = cc
  field_stands c p (field_kind j name k ks) n q m e = field_by c p j k (field_leaves c p ks) n q m (n == j) refl (kind_at n ks) e
      (λ d. leaf_stands c (p ++ j ∷ []) k q m d) (λ d. field_stands c p ks n q m d)

-- ---- leaves of a layout

-- columns by rising number, with kinds whose field numbers rise
pub record AreColumns (columns : List (ℕ × Kind)) : Type 0 where
  pub rise : IsTrue (rises_above 0 (map (λ c. c.0) columns))
  pub kinds : AllByRecursion (λ c. IsTrue (is_rising c.1)) columns

-- the leaf of a column at a path
abbrev pub leaf_in : List (ℕ × Kind) → ℕ → List ℕ → Option Mark
leaf_in columns n path = option_and_then (λ c. leaf_of c.1 path) (kind_for columns n)

abbrev pub IsMarked : List (ℕ × Kind) → Leaf → Type 0
IsMarked columns l = leaf_in columns l.column l.path ≡ Some (l.rank, l.presence)

kind_here : (c : ℕ × Kind) (cs : List (ℕ × Kind)) → kind_for (c ∷ cs) c.0 ≡ Some c
kind_here c cs = ap (λ (b : Bool). cond b (Some c) (kind_for cs c.0)) (eq-eqb c.0 c.0 refl)

kind_later : (c : ℕ × Kind) (cs : List (ℕ × Kind)) (n : ℕ) → c.0 < n → kind_for (c ∷ cs) n ≡ kind_for cs n
kind_later c cs n l = ap (λ (b : Bool). cond b (Some c) (kind_for cs n)) (ne_eqb c.0 n (λ e. absurd (omega (arith, e, l))))

marked_leaf : (c : ℕ × Kind) (cs : List (ℕ × Kind)) (l : Leaf) → IsLeafOf c.0 [] c.1 l → IsMarked (c ∷ cs) l
marked_leaf c cs l h = ap (λ (o : Option (ℕ × Kind)). option_and_then (λ x. leaf_of x.1 l.path) o) (ap (kind_for (c ∷ cs)) h.column ∙ kind_here c cs) ∙ ap (leaf_of c.1) h.path ∙ h.mark

-- a column's number is above another
abbrev IsAbove : ℕ → Leaf → Type 0
IsAbove low l = low < l.column

leaf_column : (low : ℕ) (c : ℕ × Kind) (l : Leaf) → low < c.0 → IsLeafOf c.0 [] c.1 l → IsAbove low l
leaf_column low c l h i = let e : l.column ≡ c.0 = i.column in omega (arith, h, e)

layout_above : (low : ℕ) (cs : List (ℕ × Kind)) → IsTrue (rises_above low (map (λ c. c.0) cs)) → AllByRecursion (λ c. IsTrue (is_rising c.1)) cs → AllByRecursion (IsAbove low) (layout_of cs)
layout_above low [] up k = tt
layout_above low (c ∷ cs) up k =
    let p = and_parts (nat_lt low c.0) (rises_above c.0 (map (λ c. c.0) cs)) up in
    let l : low < c.0 = ltb-true low c.0 p.0 in
    all_append (IsAbove low) (leaves c.0 [] c.1) (layout_of cs) (all_map (IsLeafOf c.0 [] c.1) (IsAbove low) (leaves c.0 [] c.1) (λ x h. leaf_column low c x l h) (all_leaves c.0 [] c.1 k.0))
    (all_map (IsAbove c.0) (IsAbove low) (layout_of cs) (λ x h. omega (arith, h, l)) (layout_above c.0 cs p.1 k.1))

all_marked_from : (low : ℕ) (cs : List (ℕ × Kind)) → IsTrue (rises_above low (map (λ c. c.0) cs)) → AllByRecursion (λ c. IsTrue (is_rising c.1)) cs → AllByRecursion (IsMarked cs) (layout_of cs)
all_marked_from low [] up k = tt
all_marked_from low (c ∷ cs) up k =
    let p = and_parts (nat_lt low c.0) (rises_above c.0 (map (λ c. c.0) cs)) up in
    all_append (IsMarked (c ∷ cs)) (leaves c.0 [] c.1) (layout_of cs) (all_map (IsLeafOf c.0 [] c.1) (IsMarked (c ∷ cs)) (leaves c.0 [] c.1) (marked_leaf c cs) (all_leaves c.0 [] c.1 k.0))
    (all_both (IsAbove c.0) (IsMarked cs) (IsMarked (c ∷ cs)) (layout_of cs) (λ l a m. ap (λ (o : Option (ℕ × Kind)). option_and_then (λ x. leaf_of x.1 l.path) o) (kind_later c cs l.column a) ∙ m) (layout_above c.0 cs p.1 k.1) (all_marked_from c.0 cs p.1 k.1))

-- each leaf of a layout is where its column's kind has it
pub all_marked : (cs : List (ℕ × Kind)) → AreColumns cs → AllByRecursion (λ l. leaf_in cs l.column l.path ≡ Some (l.rank, l.presence)) (layout_of cs)
all_marked cs a = all_marked_from 0 cs a.rise a.kinds

found_kind : (cs : List (ℕ × Kind)) (n : ℕ) (path : List ℕ) (m : Mark) (o : Option (ℕ × Kind)) → kind_for cs n ≡ o → option_and_then (λ c. leaf_of c.1 path) o ≡ Some m → (c : ℕ × Kind) × Contains cs c × (c.0 ≡ n) × (leaf_of c.1 path ≡ Some m)
found_kind cs n path m None e h = cc
found_kind cs n path m (Some c) e h = let f = find_held (λ c. c.0 == n) cs c e in (c, f.0, eqb-true c.0 n f.1, h)

-- and what the kinds have stands in the layout
pub leaf_in_layout : (cs : List (ℕ × Kind)) (n : ℕ) (path : List ℕ) (m : Mark) → leaf_in cs n path ≡ Some m → Contains (layout_of cs) (leaf_at n path m)
leaf_in_layout cs n path m e = let f = found_kind cs n path m (kind_for cs n) refl e in
    flat_held (λ c. leaves c.0 [] c.1) cs f.0 (leaf_at n path m) f.1 (subst (λ (i : ℕ). Contains (leaves f.0.0 [] f.0.1) (leaf_at i path m)) f.2 (leaf_stands f.0.0 [] f.0.1 path m f.3))

path_is : (p q : List ℕ) → same_path p q ≡ true → p ≡ q
path_is [] [] h = refl
path_is [] (b ∷ q) h = absurd (false≢true h)
path_is (a ∷ p) [] h = absurd (false≢true h)
path_is (a ∷ p) (b ∷ q) h = let k = and_parts (a == b) (same_path p q) h in ap₂ (λ (x : ℕ) (xs : List ℕ). x ∷ xs) (eqb-true a b k.0) (path_is p q k.1)

-- the same leaf is one of the same column, at the same path
pub leaf_is : (a b : Leaf) → same_leaf a b ≡ true → (a.column ≡ b.column) × (a.path ≡ b.path)
leaf_is a b h = let k = and_parts (a.column == b.column) (same_path a.path b.path) h in (eqb-true a.column b.column k.0, path_is a.path b.path k.1)

pub leaf_same : (a b : Leaf) → a.column ≡ b.column → a.path ≡ b.path → same_leaf a b ≡ true
leaf_same a b e d = and_from (a.column == b.column) (same_path a.path b.path) (eq-eqb a.column b.column e) (ap (λ (p : List ℕ). same_path p b.path) d ∙ path_self b.path)

-- what is found of a leaf in a layout: the leaf of its place
pub found_leaf : (cs : List (ℕ × Kind)) (b l : Leaf) → AreColumns cs → find (λ l. same_leaf l b) (layout_of cs) ≡ Some l → leaf_in cs b.column b.path ≡ Some (l.rank, l.presence)
found_leaf cs b l a e =
    let f = find_held (λ l. same_leaf l b) (layout_of cs) l e in
    let k = leaf_is l b f.1 in
    ap₂ (leaf_in cs) (sym k.0) (sym k.1) ∙ all_at (IsMarked cs) (layout_of cs) l (all_marked cs a) f.0

pub leaf_found : (cs : List (ℕ × Kind)) (b : Leaf) (m : Mark) → AreColumns cs → leaf_in cs b.column b.path ≡ Some m → (l : Leaf) × (find (λ l. same_leaf l b) (layout_of cs) ≡ Some l) × (l.column ≡ b.column) × (l.path ≡ b.path) × (l.rank ≡ m.0) × (l.presence ≡ m.1)
leaf_found cs b m a e =
    let g = held_is_found (λ l. same_leaf l b) (layout_of cs) (leaf_at b.column b.path m) (leaf_in_layout cs b.column b.path m e) (leaf_same (leaf_at b.column b.path m) b refl refl) in
    let k = leaf_is g.0 b (find_held (λ l. same_leaf l b) (layout_of cs) g.0 g.1).1 in
    let d : Some (g.0.rank, g.0.presence) ≡ Some m = sym (found_leaf cs b g.0 a g.1) ∙ e in
    let x : (g.0.rank, g.0.presence) ≡ m = cc in
    (g.0, g.1, k.0, k.1, ap (λ (y : Mark). y.0) x, ap (λ (y : Mark). y.1) x)
