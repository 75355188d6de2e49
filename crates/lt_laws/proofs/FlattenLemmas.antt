-- What is set in columns reads back from the cells.
use Rattle.std.proofs.Common.{List, [], ap, append_assoc, arith, false, inl, inr, leb-true, length, ltb-true, ne_eqb, refl, subst, suc, sym, true, true≢false, zero, ℕ, ℤ, ◌++◌, ◌+◌, ◌<◌, ◌∙◌, ◌∷◌, ◌≡◌, ◌≤◌, ◌⊎◌}
use Rattle.std.proofs.lemmas.Bool.{and_from, and_parts, cases_eq, eq-eqb, eqb-false, eqb-true, false≢true}
use Rattle.std.specs.Prelude.{Bool, IsTrue, None, Option, Some, cond, filter_map, find, map, max, nat_le, nat_lt, not, ◌&&◌, ◌==◌, ◌||◌}
use Rattle.std.proofs.lemmas.List.{append-nil, length-append, map-append}
use Rattle.std.specs.Option.{option_map_or, option_or}
use Rattle.std.proofs.lemmas.List.Folds.{find-append}
use Rattle.std.proofs.lemmas.List.Elements.{filter_map-append}
use Rattle.std.specs.List.{list_all, list_any}
use Rattle.lt_terms.specs.Layout.{Cell, Leaf, at_path, bool_cell, cell_of, field_leaves, field_of, flatten, is_present, is_structure, is_unset, layout_of, leaf_cell, leaves, next_field, same_path, sets, setting, unflatten, unset, value_along, value_from, value_of, with_cells}
use Rattle.lt_terms.specs.Kind.{FieldKinds, Kind, enumeration, field_kind, has_shape, have_shapes, nesting, nestings, no_kinds, plain, structured}
use Rattle.lt_terms.specs.declared.Rank.{Rank}
use Rattle.lt_terms.specs.Value.{Fields, Value, bool_value, bytes_value, field_value, fields_of, int_value, is_number, no_fields, null_value, rises_above, struct_value, text_value, value_at}
use Rattle.lt_tables.specs.Schema.{field_numbers}
use Rattle.lt_storage.specs.Store.{IsLayout, are_store_kinds, is_store_kind}
use Rattle.lt_machine.specs.Laws.{FlattensBack, are_settings}
use Rattle.lt_lemmas.proofs.ConversionLemmas.{are_rising, is_rising}
use Rattle.lt_terms.specs.declared.Rank.TheVariants as rank
use Rattle.lt_lemmas.proofs.SnapshotLaws.{or_right}
use Rattle.lt_laws.proofs.ConversionLemmas.{found_here, found_later}

-- ---- paths

pub path_self : (p : List ℕ) → same_path p p ≡ true
path_self [] = refl
path_self (a ∷ p) = rw (eq-eqb a a refl) (path_self p)

path_other : (p : List ℕ) (j m : ℕ) (s q : List ℕ) → (j ≡ m → ⊥) → same_path ((p ++ j ∷ []) ++ s) ((p ++ m ∷ []) ++ q) ≡ false
path_other [] j m s q ne = rw (ne_eqb j m ne) refl
path_other (a ∷ p) j m s q ne = rw (eq-eqb a a refl) (path_other p j m s q ne)

path_above : (p : List ℕ) (m : ℕ) (q : List ℕ) → same_path p ((p ++ m ∷ []) ++ q) ≡ false
path_above [] m q = refl
path_above (a ∷ p) m q = rw (eq-eqb a a refl) (path_above p m q)

next_other : (p : List ℕ) (j m : ℕ) (s q : List ℕ) → (j ≡ m → ⊥) → next_field ((p ++ m ∷ []) ++ q) ((p ++ j ∷ []) ++ s) ≡ None
next_other [] j m s q ne = rw (ne_eqb m j (λ e. ne (sym e))) refl
next_other (a ∷ p) j m s q ne = rw (eq-eqb a a refl) (next_other p j m s q ne)

next_above : (p : List ℕ) (m : ℕ) (q : List ℕ) → next_field ((p ++ m ∷ []) ++ q) p ≡ None
next_above [] m q = refl
next_above (a ∷ p) m q = rw (eq-eqb a a refl) (next_above p m q)

next_self : (p : List ℕ) → next_field p p ≡ None
next_self [] = refl
next_self (a ∷ p) = rw (eq-eqb a a refl) (next_self p)

next_here : (p : List ℕ) (n : ℕ) → next_field p (p ++ n ∷ []) ≡ Some n
next_here [] n = refl
next_here (a ∷ p) n = rw (eq-eqb a a refl) (next_here p n)

next_deeper : (p : List ℕ) (n a : ℕ) (s : List ℕ) → next_field p (((p ++ n ∷ []) ++ a ∷ []) ++ s) ≡ None
next_deeper [] n a s = refl
next_deeper (b ∷ p) n a s = rw (eq-eqb b b refl) (next_deeper p n a s)

-- ---- the leaves of a kind are below its path

abbrev Each : (Leaf → Type 0) → List Leaf → Type 0
Each P [] = Unit {0}
Each P (l ∷ ls) = P l × Each P ls

each-append : (P : Leaf → Type 0) (a b : List Leaf) → Each P a → Each P b → Each P (a ++ b)
each-append P [] b h i = i
each-append P (l ∷ a) b h i = (h.0, each-append P a b h.1 i)

each-map : (P Q : Leaf → Type 0) → ((l : Leaf) → P l → Q l) → (ls : List Leaf) → Each P ls → Each Q ls
each-map P Q f [] h = h
each-map P Q f (l ∷ ls) h = (f l h.0, each-map P Q f ls h.1)

record IsUnder (c : ℕ) (p : List ℕ) (l : Leaf) : Type 0 where
  rest : List ℕ
  column : l.column ≡ c
  path : l.path ≡ p ++ rest

record IsBelow (c : ℕ) (p : List ℕ) (l : Leaf) : Type 0 where
  next : ℕ
  rest : List ℕ
  column : l.column ≡ c
  path : l.path ≡ (p ++ next ∷ []) ++ rest

below_from : (c : ℕ) (p : List ℕ) (n : ℕ) (l : Leaf) → IsUnder c (p ++ n ∷ []) l → IsBelow c p l
below_from c p n l h = record { next = n; rest = h.rest; column = h.column; path = h.path }

under_from : (c : ℕ) (p : List ℕ) (l : Leaf) → IsBelow c p l → IsUnder c p l
under_from c p l h = record { rest = h.next ∷ h.rest; column = h.column; path = h.path ∙ append_assoc p (h.next ∷ []) h.rest }

mutual
  under_leaves : (c : ℕ) (p : List ℕ) (k : Kind) → Each (IsUnder c p) (leaves c p k)
  under_leaves c p (plain r) = (record { rest = []; column = refl; path = sym (append-nil p) }, tt)
  under_leaves c p (enumeration names) = (record { rest = []; column = refl; path = sym (append-nil p) }, tt)
  under_leaves c p (structured ks) = (record { rest = []; column = refl; path = sym (append-nil p) }, each-map (IsBelow c p) (IsUnder c p) (under_from c p) (field_leaves c p ks) (below_leaves c p ks))

  below_leaves : (c : ℕ) (p : List ℕ) (ks : FieldKinds) → Each (IsBelow c p) (field_leaves c p ks)
  below_leaves c p no_kinds = tt
  below_leaves c p (field_kind n name k ks) = each-append (IsBelow c p) (leaves c (p ++ n ∷ []) k) (field_leaves c p ks)
      (each-map (IsUnder c (p ++ n ∷ [])) (IsBelow c p) (below_from c p n) (leaves c (p ++ n ∷ []) k) (under_leaves c (p ++ n ∷ []) k)) (below_leaves c p ks)

-- ---- lookups, and the leaves that they pass over

abbrev at : ℕ → List ℕ → Leaf × Cell → Bool
at c z e = (e.0.column == c) && same_path e.0.path z

abbrev child : ℕ → List ℕ → Leaf × Cell → Option ℕ
child c z e = cond (e.0.column == c) (next_field z e.0.path) None

abbrev entries : (Leaf → Cell) → List Leaf → List (Leaf × Cell)
entries g ls = map (λ l. (l, g l)) ls

record IsPassed (c : ℕ) (z : List ℕ) (l : Leaf) : Type 0 where
  found : ((l.column == c) && same_path l.path z) ≡ false
  next : cond (l.column == c) (next_field z l.path) None ≡ None

record SameLookups (c : ℕ) (z : List ℕ) (es fs : List (Leaf × Cell)) : Type 0 where
  found : find (at c z) es ≡ find (at c z) fs
  next : filter_map (child c z) es ≡ filter_map (child c z) fs

passed_found : (g : Leaf → Cell) (c : ℕ) (z : List ℕ) (ls : List Leaf) → Each (IsPassed c z) ls → find (at c z) (entries g ls) ≡ None
passed_found g c z [] h = refl
passed_found g c z (l ∷ ls) h = rw h.0.found (passed_found g c z ls h.1)

passed_next : (g : Leaf → Cell) (c : ℕ) (z : List ℕ) (ls : List Leaf) → Each (IsPassed c z) ls → filter_map (child c z) (entries g ls) ≡ []
passed_next g c z [] h = refl
passed_next g c z (l ∷ ls) h = rw h.0.next (passed_next g c z ls h.1)

or-none : {X : Type 0} (o : Option X) → option_or o None ≡ o
or-none None = refl
or-none (Some x) = refl

skip_left : (g : Leaf → Cell) (c : ℕ) (z : List ℕ) (a b : List Leaf) → Each (IsPassed c z) a → SameLookups c z (entries g (a ++ b)) (entries g b)
skip_left g c z a b h = record {
  found = ap (find (at c z)) (map-append (λ l. (l, g l)) a b) ∙ (find-append (at c z) (entries g a) (entries g b) ∙ ap (λ o. option_or o (find (at c z) (entries g b))) (passed_found g c z a h));
  next = ap (filter_map (child c z)) (map-append (λ l. (l, g l)) a b) ∙ (filter_map-append (child c z) (entries g a) (entries g b) ∙ ap (λ o. o ++ filter_map (child c z) (entries g b)) (passed_next g c z a h));
}

skip_right : (g : Leaf → Cell) (c : ℕ) (z : List ℕ) (a b : List Leaf) → Each (IsPassed c z) b → SameLookups c z (entries g (a ++ b)) (entries g a)
skip_right g c z a b h = record {
  found = ap (find (at c z)) (map-append (λ l. (l, g l)) a b) ∙ (find-append (at c z) (entries g a) (entries g b) ∙ (ap (option_or (find (at c z) (entries g a))) (passed_found g c z b h) ∙ or-none (find (at c z) (entries g a))));
  next = ap (filter_map (child c z)) (map-append (λ l. (l, g l)) a b) ∙ (filter_map-append (child c z) (entries g a) (entries g b) ∙ (ap (λ o. filter_map (child c z) (entries g a) ++ o) (passed_next g c z b h) ∙ append-nil _));
}

same_trans : (c : ℕ) (z : List ℕ) (a b d : List (Leaf × Cell)) → SameLookups c z a b → SameLookups c z b d → SameLookups c z a d
same_trans c z a b d h i = record { found = h.found ∙ i.found; next = h.next ∙ i.next }

passed_column : (c : ℕ) (z : List ℕ) (l : Leaf) → (l.column ≡ c → ⊥) → IsPassed c z l
passed_column c z l ne = record { found = rw (ne_eqb l.column c ne) refl; next = rw (ne_eqb l.column c ne) refl }

passed_field : (c : ℕ) (p : List ℕ) (j m : ℕ) (q : List ℕ) → (j ≡ m → ⊥) → (l : Leaf) → IsUnder c (p ++ j ∷ []) l → IsPassed c ((p ++ m ∷ []) ++ q) l
passed_field c p j m q ne l h = record {
  found = rw (eq-eqb l.column c h.column) (ap (λ y. same_path y ((p ++ m ∷ []) ++ q)) h.path ∙ path_other p j m h.rest q ne);
  next = rw (eq-eqb l.column c h.column) (ap (next_field ((p ++ m ∷ []) ++ q)) h.path ∙ next_other p j m h.rest q ne);
}

passed_root : (c : ℕ) (p : List ℕ) (m : ℕ) (q : List ℕ) (r : Rank) (b : Bool) → IsPassed c ((p ++ m ∷ []) ++ q) (record { column = c; path = p; rank = r; presence = b })
passed_root c p m q r b = record { found = rw (eq-eqb c c refl) (path_above p m q); next = rw (eq-eqb c c refl) (next_above p m q) }

-- ---- cells of one value

pub cell_back : (r : Rank) (w : Value) → IsTrue (has_shape w (plain r)) → value_of r (cell_of w) ≡ w
cell_back r null_value h = refl
cell_back r (bool_value b) h = refl
cell_back r (int_value z) h = refl
cell_back rank.Text (text_value t) h = refl
cell_back rank.Bytes (bytes_value t) h = refl
cell_back r w h = absurd (false≢true h)

number_cell_back : (w : Value) (names : List (ℤ × List ℕ)) → IsTrue (has_shape w (enumeration names)) → value_of rank.Int32 (cell_of w) ≡ w
number_cell_back null_value names h = refl
number_cell_back (int_value z) names h = refl
number_cell_back w names h = absurd (false≢true h)

root_found : (g : Leaf → Cell) (c : ℕ) (p : List ℕ) (r : Rank) (b : Bool) (ls : List Leaf)
    → find (at c p) (entries g (record { column = c; path = p; rank = r; presence = b } ∷ ls)) ≡ Some (record { column = c; path = p; rank = r; presence = b }, g (record { column = c; path = p; rank = r; presence = b }))
root_found g c p r b ls = rw (eq-eqb c c refl) (rw (path_self p) refl)

-- the fields of a struct are those that its leaves name
deeper_passed : (g : Leaf → Cell) (c : ℕ) (p : List ℕ) (n : ℕ) (ls : List Leaf) → Each (IsBelow c (p ++ n ∷ [])) ls → filter_map (child c p) (entries g ls) ≡ []
deeper_passed g c p n [] h = refl
deeper_passed g c p n (l ∷ ls) h = rw (eq-eqb l.column c h.0.column) (rw h.0.path (rw (next_deeper p n h.0.next h.0.rest) (deeper_passed g c p n ls h.1)))

one_child : (g : Leaf → Cell) (c : ℕ) (p : List ℕ) (n : ℕ) (k : Kind) → filter_map (child c p) (entries g (leaves c (p ++ n ∷ []) k)) ≡ n ∷ []
one_child g c p n (plain r) = rw (eq-eqb c c refl) (rw (next_here p n) refl)
one_child g c p n (enumeration names) = rw (eq-eqb c c refl) (rw (next_here p n) refl)
one_child g c p n (structured ks) = rw (eq-eqb c c refl) (rw (next_here p n) (ap (λ ns. n ∷ ns) (deeper_passed g c p n (field_leaves c (p ++ n ∷ []) ks) (below_leaves c (p ++ n ∷ []) ks))))

children : (g : Leaf → Cell) (c : ℕ) (p : List ℕ) (ks : FieldKinds) → filter_map (child c p) (entries g (field_leaves c p ks)) ≡ field_numbers ks
children g c p no_kinds = refl
children g c p (field_kind n name k ks) =
    ap (filter_map (child c p)) (map-append (λ l. (l, g l)) (leaves c (p ++ n ∷ []) k) (field_leaves c p ks))
    ∙ (filter_map-append (child c p) (entries g (leaves c (p ++ n ∷ []) k)) (entries g (field_leaves c p ks))
    ∙ (ap (λ ns. ns ++ filter_map (child c p) (entries g (field_leaves c p ks))) (one_child g c p n k) ∙ ap (λ ns. n ∷ ns) (children g c p ks)))

struct_children : (g : Leaf → Cell) (c : ℕ) (p : List ℕ) (ks : FieldKinds) → filter_map (child c p) (entries g (leaves c p (structured ks))) ≡ field_numbers ks
struct_children g c p ks = rw (eq-eqb c c refl) (rw (next_self p) (children g c p ks))

-- ---- from cells to the value

along_field : (p : List ℕ) (n : ℕ) (v : Value) → value_along (p ++ n ∷ []) v ≡ field_of n (value_along p v)
along_field [] n v = refl
along_field (a ∷ p) n v = along_field p n (field_of a v)

-- a field is not found among those above it
later_passed : (c : ℕ) (p : List ℕ) (m : ℕ) (ks : FieldKinds) (low : ℕ) → m ≤ low → (q : List ℕ) → IsTrue (are_rising low ks) → Each (IsPassed c ((p ++ m ∷ []) ++ q)) (field_leaves c p ks)
later_passed c p m no_kinds low le q up = tt
later_passed c p m (field_kind j name k ks) low le q up =
    let u = and_parts (nat_lt low j && is_rising k) (are_rising j ks) up in
    let above : low < j = ltb-true low j (and_parts (nat_lt low j) (is_rising k) u.0).0 in
    each-append (IsPassed c ((p ++ m ∷ []) ++ q)) (leaves c (p ++ j ∷ []) k) (field_leaves c p ks)
    (each-map (IsUnder c (p ++ j ∷ [])) (IsPassed c ((p ++ m ∷ []) ++ q)) (passed_field c p j m q (λ e. omega (arith, e))) (leaves c (p ++ j ∷ []) k) (under_leaves c (p ++ j ∷ []) k))
    (later_passed c p m ks j (omega arith) q u.1)

found_at : (cells : List (Leaf × Cell)) (g : Leaf → Cell) (c : ℕ) (p : List ℕ) (r : Rank) (b : Bool) (ls : List Leaf)
    → SameLookups c (p ++ []) cells (entries g (record { column = c; path = p; rank = r; presence = b } ∷ ls))
    → at_path c p cells ≡ Some (record { column = c; path = p; rank = r; presence = b }, g (record { column = c; path = p; rank = r; presence = b }))
found_at cells g c p r b ls h = (subst (λ z. find (at c z) cells ≡ find (at c z) (entries g (record { column = c; path = p; rank = r; presence = b } ∷ ls))) (append-nil p) h.found) ∙ root_found g c p r b ls

next_at : (cells : List (Leaf × Cell)) (g : Leaf → Cell) (c : ℕ) (p : List ℕ) (ks : FieldKinds) → SameLookups c (p ++ []) cells (entries g (leaves c p (structured ks)))
    → filter_map (child c p) cells ≡ field_numbers ks
next_at cells g c p ks h = (subst (λ z. filter_map (child c z) cells ≡ filter_map (child c z) (entries g (leaves c p (structured ks)))) (append-nil p) h.next) ∙ struct_children g c p ks

mutual
  value_back : (g : Leaf → Cell) (c : ℕ) (v : Value) → ((l : Leaf) → l.column ≡ c → g l ≡ leaf_cell l v) → (cells : List (Leaf × Cell)) (k : Kind) (depth : ℕ) (p : List ℕ) (w : Value)
      → ((q : List ℕ) → SameLookups c (p ++ q) cells (entries g (leaves c p k))) → value_along p v ≡ w → IsTrue (has_shape w k) → IsTrue (is_rising k) → nesting k < depth → value_from depth c p cells ≡ w
  value_back g c v of cells k zero p w same is shape up deep = absurd (omega arith)
  value_back g c v of cells (plain r) (suc depth) p w same is shape up deep =
      rw (found_at cells g c p r false [] (same [])) (ap (value_of r) (of (record { column = c; path = p; rank = r; presence = false }) refl ∙ ap cell_of is) ∙ cell_back r w shape)
  value_back g c v of cells (enumeration names) (suc depth) p w same is shape up deep =
      rw (found_at cells g c p rank.Int32 false [] (same [])) (ap (value_of rank.Int32) (of (record { column = c; path = p; rank = rank.Int32; presence = false }) refl ∙ ap cell_of is) ∙ number_cell_back w names shape)
  value_back g c v of cells (structured ks) (suc depth) p null_value same is shape up deep =
      rw (found_at cells g c p rank.Bool true (field_leaves c p ks) (same []))
      (ap (λ x. cond (is_present x) (struct_value (fields_of (map (λ n. (n, value_from depth c (p ++ n ∷ []) cells)) (filter_map (child c p) cells)))) null_value) (of (record { column = c; path = p; rank = rank.Bool; presence = true }) refl ∙ ap (λ y. bool_cell (is_structure y)) is))
  value_back g c v of cells (structured ks) (suc depth) p (struct_value fs) same is shape up deep =
      rw (found_at cells g c p rank.Bool true (field_leaves c p ks) (same []))
      (ap (λ x. cond (is_present x) (struct_value (fields_of (map (λ n. (n, value_from depth c (p ++ n ∷ []) cells)) (filter_map (child c p) cells)))) null_value) (of (record { column = c; path = p; rank = rank.Bool; presence = true }) refl ∙ ap (λ y. bool_cell (is_structure y)) is)
      ∙ (ap (λ ns. struct_value (fields_of (map (λ n. (n, value_from depth c (p ++ n ∷ []) cells)) ns))) (next_at cells g c p ks (same []))
      ∙ ap struct_value (fields_back g c v of cells ks depth p 0 fs fs is (λ n le. refl)
      (λ m le q. same_trans c ((p ++ m ∷ []) ++ q) cells (entries g (leaves c p (structured ks))) (entries g (field_leaves c p ks))
      (subst (λ z. SameLookups c z cells (entries g (leaves c p (structured ks)))) (sym (append_assoc p (m ∷ []) q)) (same (m ∷ q)))
      (skip_left g c ((p ++ m ∷ []) ++ q) (record { column = c; path = p; rank = rank.Bool; presence = true } ∷ []) (field_leaves c p ks) (passed_root c p m q rank.Bool true, tt)))
      shape up (omega arith))))
  value_back g c v of cells (structured ks) (suc depth) p w same is shape up deep = absurd (false≢true shape)

  -- the fields from some number on, of a struct that has there these fields
  fields_back : (g : Leaf → Cell) (c : ℕ) (v : Value) → ((l : Leaf) → l.column ≡ c → g l ≡ leaf_cell l v) → (cells : List (Leaf × Cell)) (ks : FieldKinds) (depth : ℕ) (p : List ℕ) (low : ℕ) (all fs : Fields)
      → value_along p v ≡ struct_value all → ((n : ℕ) → low < n → value_at n all ≡ value_at n fs)
      → ((m : ℕ) → low < m → (q : List ℕ) → SameLookups c ((p ++ m ∷ []) ++ q) cells (entries g (field_leaves c p ks)))
      → IsTrue (have_shapes fs ks) → IsTrue (are_rising low ks) → nestings ks < depth → fields_of (map (λ n. (n, value_from depth c (p ++ n ∷ []) cells)) (field_numbers ks)) ≡ fs
  fields_back g c v of cells no_kinds depth p low all no_fields is values same shape up deep = refl
  fields_back g c v of cells no_kinds depth p low all (field_value n x fs) is values same shape up deep = absurd (false≢true shape)
  fields_back g c v of cells (field_kind m name k ks) depth p low all no_fields is values same shape up deep = absurd (false≢true shape)
  fields_back g c v of cells (field_kind m name k ks) depth p low all (field_value n x fs) is values same shape up deep =
      let h = and_parts (n == m && has_shape x k) (have_shapes fs ks) shape in
      let h' = and_parts (n == m) (has_shape x k) h.0 in
      let u = and_parts (nat_lt low m && is_rising k) (are_rising m ks) up in
      let u' = and_parts (nat_lt low m) (is_rising k) u.0 in
      let at : n ≡ m = eqb-true n m h'.0 in
      let above : low < m = ltb-true low m u'.0 in
      let value : value_at m all ≡ x = values m above ∙ (ap (λ j. cond (m == j) x (value_at m fs)) at ∙ found_here m x (value_at m fs)) in
      let here : value_from depth c (p ++ m ∷ []) cells ≡ x
      = value_back g c v of cells k depth (p ++ m ∷ []) x
      (λ q. same_trans c ((p ++ m ∷ []) ++ q) cells (entries g (field_leaves c p (field_kind m name k ks))) (entries g (leaves c (p ++ m ∷ []) k)) (same m above q)
      (skip_right g c ((p ++ m ∷ []) ++ q) (leaves c (p ++ m ∷ []) k) (field_leaves c p ks) (later_passed c p m ks m (omega arith) q u.1)))
      (along_field p m v ∙ (ap (field_of m) is ∙ value)) h'.1 u'.1 (omega arith) in
      let later : fields_of (map (λ n. (n, value_from depth c (p ++ n ∷ []) cells)) (field_numbers ks)) ≡ fs
      = fields_back g c v of cells ks depth p m all fs is (λ j le. values j (omega arith) ∙ found_later j n x (value_at j fs) (omega arith))
      (λ j le q. same_trans c ((p ++ j ∷ []) ++ q) cells (entries g (field_leaves c p (field_kind m name k ks))) (entries g (field_leaves c p ks)) (same j (omega arith) q)
      (skip_left g c ((p ++ j ∷ []) ++ q) (leaves c (p ++ m ∷ []) k) (field_leaves c p ks)
      (each-map (IsUnder c (p ++ m ∷ [])) (IsPassed c ((p ++ j ∷ []) ++ q)) (passed_field c p m j q (λ e. omega (arith, e))) (leaves c (p ++ m ∷ []) k) (under_leaves c (p ++ m ∷ []) k))))
      h.1 u.1 (omega arith) in
      cc

-- ---- columns

column_passed : (n : ℕ) (z : List ℕ) (m : ℕ) (k : Kind) → (m ≡ n → ⊥) → Each (IsPassed n z) (leaves m [] k)
column_passed n z m k ne = each-map (IsUnder m []) (IsPassed n z) (λ l h. passed_column n z l (λ e. ne (sym h.column ∙ e))) (leaves m [] k) (under_leaves m [] k)

others_passed : (n : ℕ) (z : List ℕ) (low : ℕ) → n ≤ low → (cs : List (ℕ × Kind)) → IsTrue (rises_above low (map (λ c. c.0) cs)) → Each (IsPassed n z) (layout_of cs)
others_passed n z low le [] h = tt
others_passed n z low le (c ∷ cs) h =
    let p = and_parts (nat_lt low c.0) (rises_above c.0 (map (λ c. c.0) cs)) h in
    let above : low < c.0 = ltb-true low c.0 p.0 in
    each-append (IsPassed n z) (leaves c.0 [] c.1) (layout_of cs) (column_passed n z c.0 c.1 (λ e. omega (arith, e))) (others_passed n z c.0 (omega arith) cs p.1)

column_by : (g : Leaf → Cell) (n : ℕ) (z : List ℕ) (c : ℕ × Kind) (cs : List (ℕ × Kind)) (x : ℕ × Kind) (b : Bool) → (c.0 == n) ≡ b → IsTrue (rises_above c.0 (map (λ c. c.0) cs))
    → cond b (Some c) (find (λ c. c.0 == n) cs) ≡ Some x → (find (λ c. c.0 == n) cs ≡ Some x → SameLookups n z (entries g (layout_of cs)) (entries g (leaves n [] x.1)))
    → SameLookups n z (entries g (layout_of (c ∷ cs))) (entries g (leaves n [] x.1))
column_by g n z c cs x true e h f rest =
    let same : c ≡ x = cc in let at : c.0 ≡ n = eqb-true c.0 n e in
    subst (λ y. SameLookups n z (entries g (layout_of (c ∷ cs))) (entries g (leaves n [] y.1))) same
    (subst (λ j. SameLookups n z (entries g (layout_of (c ∷ cs))) (entries g (leaves j [] c.1))) at (skip_right g n z (leaves c.0 [] c.1) (layout_of cs) (others_passed n z c.0 (omega arith) cs h)))
column_by g n z c cs x false e h f rest =
    same_trans n z (entries g (layout_of (c ∷ cs))) (entries g (layout_of cs)) (entries g (leaves n [] x.1))
    (skip_left g n z (leaves c.0 [] c.1) (layout_of cs) (column_passed n z c.0 c.1 (eqb-false c.0 n e))) (rest f)

column_lookups : (g : Leaf → Cell) (n : ℕ) (z : List ℕ) (low : ℕ) (cs : List (ℕ × Kind)) (x : ℕ × Kind) → IsTrue (rises_above low (map (λ c. c.0) cs)) → find (λ c. c.0 == n) cs ≡ Some x
    → SameLookups n z (entries g (layout_of cs)) (entries g (leaves n [] x.1))
column_lookups g n z low [] x h f = cc
column_lookups g n z low (c ∷ cs) x h f =
    let p = and_parts (nat_lt low c.0) (rises_above c.0 (map (λ c. c.0) cs)) h in
    column_by g n z c cs x (c.0 == n) refl p.1 f (λ e. column_lookups g n z c.0 cs x p.1 e)

all_by : (P T : ℕ × Kind → Bool) (c : ℕ × Kind) (cs : List (ℕ × Kind)) (x : ℕ × Kind) (b : Bool) → P c ≡ true → cond b (Some c) (find T cs) ≡ Some x → (find T cs ≡ Some x → P x ≡ true) → P x ≡ true
all_by P T c cs x true h e rest = let same : c ≡ x = cc in ap P (sym same) ∙ h
all_by P T c cs x false h e rest = rest e

all_found : (P T : ℕ × Kind → Bool) (cs : List (ℕ × Kind)) (x : ℕ × Kind) → list_all P cs ≡ true → find T cs ≡ Some x → P x ≡ true
all_found P T [] x h e = cc
all_found P T (c ∷ cs) x h e = let p = and_parts (P c) (list_all P cs) h in all_by P T c cs x (T c) p.0 e (all_found P T cs x p.1)

abbrev suits_column : List (ℕ × Kind) → ℕ → Value → Bool
suits_column columns n v = option_map_or (λ c. has_shape v c.1) (find (λ c. c.0 == n) columns) false

setting_by : (columns : List (ℕ × Kind)) (n m : ℕ) (w v : Value) (o : Option Value) (b : Bool) → (n == m) ≡ b → suits_column columns m w ≡ true → cond b (Some w) o ≡ Some v → (o ≡ Some v → suits_column columns n v ≡ true) → suits_column columns n v ≡ true
setting_by columns n m w v o true e h f rest = let same : w ≡ v = cc in ap (suits_column columns n) (sym same) ∙ (ap (λ j. suits_column columns j w) (eqb-true n m e) ∙ h)
setting_by columns n m w v o false e h f rest = rest f

setting_shape : (columns : List (ℕ × Kind)) (n : ℕ) (set : List (ℕ × Value)) (v : Value) → IsTrue (are_settings columns set) → setting n set ≡ Some v → suits_column columns n v ≡ true
setting_shape columns n [] v h e = cc
setting_shape columns n (s ∷ ss) v h e =
    let p = and_parts (suits_column columns s.0 s.1) (are_settings columns ss) h in
    setting_by columns n s.0 s.1 v (setting n ss) (n == s.0) refl p.0 e (setting_shape columns n ss v p.1)

-- ---- whether a column is set

abbrev set_at : ℕ → Leaf × Cell → Bool
set_at n e = (e.0.column == n) && not (is_unset e.1)

unset_by : (g : Leaf → Cell) (n : ℕ) → ((l : Leaf) → l.column ≡ n → g l ≡ unset) → (l : Leaf) → ((l.column ≡ n) ⊎ (l.column ≡ n → ⊥)) → set_at n (l, g l) ≡ false
unset_by g n none l (inl e) = rw (eq-eqb l.column n e) (ap (λ x. not (is_unset x)) (none l e))
unset_by g n none l (inr ne) = rw (ne_eqb l.column n ne) refl

none_set : (g : Leaf → Cell) (n : ℕ) → ((l : Leaf) → l.column ≡ n → g l ≡ unset) → (ls : List Leaf) → sets n (entries g ls) ≡ false
none_set g n none [] = refl
none_set g n none (l ∷ ls) = rw (unset_by g n none l (cases_eq l.column n)) (none_set g n none ls)

any_by : (P Q : Leaf × Cell → Bool) (e : Leaf × Cell) (es : List (Leaf × Cell)) (f : Leaf × Cell) (b : Bool) → cond b (Some e) (find P es) ≡ Some f → Q f ≡ true → (find P es ≡ Some f → list_any Q es ≡ true) → (Q e || list_any Q es) ≡ true
any_by P Q e es f true h q rest = let same : e ≡ f = cc in rw (ap Q same ∙ q) refl
any_by P Q e es f false h q rest = or_right (Q e) (list_any Q es) (rest h)

any_found : (P Q : Leaf × Cell → Bool) (es : List (Leaf × Cell)) (f : Leaf × Cell) → find P es ≡ Some f → Q f ≡ true → list_any Q es ≡ true
any_found P Q [] f h q = cc
any_found P Q (e ∷ es) f h q = any_by P Q e es f (P e) h q (λ i. any_found P Q es f i q)

pub cell_set : (b : Bool) (w : Value) → is_unset (cond b (bool_cell (is_structure w)) (cell_of w)) ≡ false
cell_set true w = refl
cell_set false null_value = refl
cell_set false (bool_value b) = refl
cell_set false (int_value z) = refl
cell_set false (text_value t) = refl
cell_set false (bytes_value t) = refl
cell_set false (struct_value fs) = refl

record Root (g : Leaf → Cell) (n : ℕ) (es : List (Leaf × Cell)) : Type 0 where
  leaf : Leaf
  found : find (at n []) es ≡ Some (leaf, g leaf)
  column : leaf.column ≡ n

root_of : (g : Leaf → Cell) (n : ℕ) (k : Kind) → Root g n (entries g (leaves n [] k))
root_of g n (plain r) = record { leaf = record { column = n; path = []; rank = r; presence = false }; found = root_found g n [] r false []; column = refl }
root_of g n (enumeration names) = record { leaf = record { column = n; path = []; rank = rank.Int32; presence = false }; found = root_found g n [] rank.Int32 false []; column = refl }
root_of g n (structured ks) = record { leaf = record { column = n; path = []; rank = rank.Bool; presence = true }; found = root_found g n [] rank.Bool true (field_leaves n [] ks); column = refl }

column_set : (g : Leaf → Cell) (n : ℕ) (k : Kind) (v : Value) (es : List (Leaf × Cell)) → ((l : Leaf) → l.column ≡ n → g l ≡ leaf_cell l v) → SameLookups n [] es (entries g (leaves n [] k)) → sets n es ≡ true
column_set g n k v es of same =
    let root = root_of g n k in
    any_found (at n []) (set_at n) es (root.leaf, g root.leaf) (same.found ∙ root.found)
    (rw (eq-eqb root.leaf.column n root.column) (ap (λ x. not (is_unset x)) (of root.leaf root.column) ∙ ap not (cell_set root.leaf.presence (value_along root.leaf.path v))))

-- ---- all columns

abbrev cell_in : List (ℕ × Value) → Leaf → Cell
cell_in set l = option_map_or (leaf_cell l) (setting l.column set) unset

with_own : (g : Leaf → Cell) (ls : List Leaf) → with_cells ls (map g ls) ≡ entries g ls
with_own g [] = refl
with_own g (l ∷ ls) = ap (λ es. (l, g l) ∷ es) (with_own g ls)

abbrev is_shallow : ℕ × Kind → Bool
is_shallow c = is_rising c.1 && nat_le (nesting c.1) 4

back_at : (columns : List (ℕ × Kind)) (set : List (ℕ × Value)) (n : ℕ) (v : Value) (o : Option (ℕ × Kind)) → find (λ c. c.0 == n) columns ≡ o → IsTrue (rises_above 0 (map (λ c. c.0) columns)) → IsTrue (list_all is_shallow columns)
    → option_map_or (λ c. has_shape v c.1) o false ≡ true → setting n set ≡ Some v → (sets n (entries (cell_in set) (layout_of columns)) ≡ true) × (value_from 5 n [] (entries (cell_in set) (layout_of columns)) ≡ v)
back_at columns set n v None f up fine shape e = absurd (false≢true shape)
back_at columns set n v (Some x) f up fine shape e =
    let of : (l : Leaf) → l.column ≡ n → cell_in set l ≡ leaf_cell l v = λ l at. ap (λ o. option_map_or (leaf_cell l) o unset) (ap (λ j. setting j set) at ∙ e) in
    let p = and_parts (is_rising x.1) (nat_le (nesting x.1) 4) (all_found is_shallow (λ c. c.0 == n) columns x fine f) in
    let deep : nesting x.1 ≤ 4 = leb-true (nesting x.1) 4 p.1 in (
      column_set (cell_in set) n x.1 v (entries (cell_in set) (layout_of columns)) of (column_lookups (cell_in set) n [] 0 columns x up f),
      value_back (cell_in set) n v of (entries (cell_in set) (layout_of columns)) x.1 5 [] v (λ q. column_lookups (cell_in set) n q 0 columns x up f) refl shape p.0 (omega arith),
    )

back_by : (columns : List (ℕ × Kind)) (set : List (ℕ × Value)) (n : ℕ) (o : Option Value) → setting n set ≡ o → IsTrue (rises_above 0 (map (λ c. c.0) columns)) → IsTrue (list_all is_shallow columns) → IsTrue (are_settings columns set)
    → cond (sets n (entries (cell_in set) (layout_of columns))) (Some (value_from 5 n [] (entries (cell_in set) (layout_of columns)))) None ≡ o
back_by columns set n None e up fine settings =
    ap (λ b. cond b (Some (value_from 5 n [] (entries (cell_in set) (layout_of columns)))) None)
    (none_set (cell_in set) n (λ l at. ap (λ o. option_map_or (leaf_cell l) o unset) (ap (λ j. setting j set) at ∙ e)) (layout_of columns))
back_by columns set n (Some v) e up fine settings =
    let r = back_at columns set n v (find (λ c. c.0 == n) columns) refl up fine (setting_shape columns n set v settings e) e in
    ap (λ b. cond b (Some (value_from 5 n [] (entries (cell_in set) (layout_of columns)))) None) r.0 ∙ ap Some r.1

-- what was set reads back, where the columns' numbers and their fields' rise and structs nest at most 4 deep
pub flattens_back-columns : (columns : List (ℕ × Kind)) (set : List (ℕ × Value)) (n : ℕ) → IsTrue (rises_above 0 (map (λ c. c.0) columns)) → IsTrue (list_all is_shallow columns) → IsTrue (are_settings columns set)
    → unflatten (layout_of columns) (flatten (layout_of columns) set) n ≡ setting n set
unfolding unflatten
flattens_back-columns columns set n up fine settings =
    ap (λ es. cond (sets n es) (Some (value_from 5 n [] es)) None) (with_own (cell_in set) (layout_of columns)) ∙ back_by columns set n (setting n set) refl up fine settings

-- ---- columns with one layout are alike

abbrev head_path : List Leaf → List ℕ
head_path [] = []
head_path (l ∷ ls) = l.path

abbrev head_column : List Leaf → ℕ
head_column [] = 0
head_column (l ∷ ls) = l.column

abbrev head_presence : List Leaf → Bool
head_presence [] = false
head_presence (l ∷ ls) = l.presence

abbrev after_head : List Leaf → List Leaf
after_head [] = []
after_head (l ∷ ls) = ls

-- the leaves begin with none of a path longer than that
abbrev IsShort : ℕ → List Leaf → Type 0
IsShort d [] = Unit {0}
IsShort d (l ∷ ls) = length l.path ≤ d

first_path : (c : ℕ) (p : List ℕ) (k : Kind) (a : List Leaf) → head_path (leaves c p k ++ a) ≡ p
first_path c p (plain r) a = refl
first_path c p (enumeration names) a = refl
first_path c p (structured ks) a = refl

first_column : (c : ℕ) (p : List ℕ) (k : Kind) (a : List Leaf) → head_column (leaves c p k ++ a) ≡ c
first_column c p (plain r) a = refl
first_column c p (enumeration names) a = refl
first_column c p (structured ks) a = refl

short_from : (d c : ℕ) (p : List ℕ) (k : Kind) (a : List Leaf) → length p ≤ d → IsShort d (leaves c p k ++ a)
short_from d c p (plain r) a h = h
short_from d c p (enumeration names) a h = h
short_from d c p (structured ks) a h = h

short_is : (d c : ℕ) (p : List ℕ) (k : Kind) (a : List Leaf) → IsShort d (leaves c p k ++ a) → length p ≤ d
short_is d c p (plain r) a h = h
short_is d c p (enumeration names) a h = h
short_is d c p (structured ks) a h = h

not_none : (c : ℕ) (p : List ℕ) (k : Kind) (a : List Leaf) → leaves c p k ++ a ≡ [] → ⊥
not_none c p (plain r) a e = cc
not_none c p (enumeration names) a e = cc
not_none c p (structured ks) a e = cc

shorter : (d e : ℕ) → d ≤ e → (a : List Leaf) → IsShort d a → IsShort e a
shorter d e le [] h = tt
shorter d e le (l ∷ a) h = omega (arith, h)

longer : (p : List ℕ) (n : ℕ) → length (p ++ n ∷ []) ≡ length p + 1
longer p n = length-append p (n ∷ [])

short_fields : (c : ℕ) (p : List ℕ) (n : ℕ) (ks : FieldKinds) (a : List Leaf) → IsShort (length p) a → IsShort (length (p ++ n ∷ [])) (field_leaves c p ks ++ a)
short_fields c p n no_kinds a h = shorter (length p) (length (p ++ n ∷ [])) (omega (arith, longer p n)) a h
short_fields c p n (field_kind m name k ks) a h =
    subst (IsShort (length (p ++ n ∷ []))) (sym (append_assoc (leaves c (p ++ m ∷ []) k) (field_leaves c p ks) a))
    (short_from (length (p ++ n ∷ [])) c (p ++ m ∷ []) k (field_leaves c p ks ++ a) (omega (arith, longer p n, longer p m)))

last_same : (p : List ℕ) (n m : ℕ) → p ++ n ∷ [] ≡ p ++ m ∷ [] → n ≡ m
last_same [] n m e = cc
last_same (a ∷ p) n m e = last_same p n m (let f : p ++ n ∷ [] ≡ p ++ m ∷ [] = cc in f)

no_field : (c : ℕ) (p : List ℕ) (n : ℕ) (name : List ℕ) (k : Kind) (ks : FieldKinds) (a b : List Leaf) → a ≡ field_leaves c p (field_kind n name k ks) ++ b → IsShort (length p) a → ⊥
no_field c p n name k ks a b e h =
    let long : length (p ++ n ∷ []) ≤ length p
    = short_is (length p) c (p ++ n ∷ []) k (field_leaves c p ks ++ b) (subst (IsShort (length p)) (e ∙ append_assoc (leaves c (p ++ n ∷ []) k) (field_leaves c p ks) b) h) in
    omega (arith, long, longer p n)

record KindsAlike (a b : List Leaf) (k l : Kind) : Type 0 where
  rest : a ≡ b
  deep : nesting k ≡ nesting l
  rising : IsTrue (is_rising l) → IsTrue (is_rising k)

record FieldsAlike (a b : List Leaf) (ks ls : FieldKinds) : Type 0 where
  rest : a ≡ b
  deep : nestings ks ≡ nestings ls
  rising : (low : ℕ) → IsTrue (are_rising low ls) → IsTrue (are_rising low ks)

fields_rise : (low n m : ℕ) (k l : Kind) (ks ls : FieldKinds) → n ≡ m → (IsTrue (is_rising l) → IsTrue (is_rising k)) → ((low : ℕ) → IsTrue (are_rising low ls) → IsTrue (are_rising low ks))
    → IsTrue (nat_lt low m && is_rising l && are_rising m ls) → IsTrue (nat_lt low n && is_rising k && are_rising n ks)
fields_rise low n m k l ks ls same r s h =
    let p = and_parts (nat_lt low m && is_rising l) (are_rising m ls) h in
    let q = and_parts (nat_lt low m) (is_rising l) p.0 in
    and_from (nat_lt low n && is_rising k) _ (and_from (nat_lt low n) _ (ap (nat_lt low) same ∙ q.0) (r q.1)) (s n (subst (λ j. IsTrue (are_rising j ls)) (sym same) p.1))

mutual
  kinds_alike : (k l : Kind) (c : ℕ) (p : List ℕ) (a b : List Leaf) → leaves c p k ++ a ≡ leaves c p l ++ b → IsShort (length p) a → IsShort (length p) b → KindsAlike a b k l
  kinds_alike (plain r) (plain s) c p a b e ha hb = record { rest = ap after_head e; deep = refl; rising = λ h. h }
  kinds_alike (plain r) (enumeration names) c p a b e ha hb = record { rest = ap after_head e; deep = refl; rising = λ h. h }
  kinds_alike (enumeration names) (plain s) c p a b e ha hb = record { rest = ap after_head e; deep = refl; rising = λ h. h }
  kinds_alike (enumeration names) (enumeration others) c p a b e ha hb = record { rest = ap after_head e; deep = refl; rising = λ h. h }
  kinds_alike (plain r) (structured ls) c p a b e ha hb = absurd (false≢true (ap head_presence e))
  kinds_alike (enumeration names) (structured ls) c p a b e ha hb = absurd (false≢true (ap head_presence e))
  kinds_alike (structured ks) (plain s) c p a b e ha hb = absurd (true≢false (ap head_presence e))
  kinds_alike (structured ks) (enumeration names) c p a b e ha hb = absurd (true≢false (ap head_presence e))
  kinds_alike (structured ks) (structured ls) c p a b e ha hb =
      let r = fields_alike ks ls c p a b (ap after_head e) ha hb in
      record { rest = r.rest; deep = ap (λ d. 1 + d) r.deep; rising = r.rising 0 }

  fields_alike : (ks ls : FieldKinds) (c : ℕ) (p : List ℕ) (a b : List Leaf) → field_leaves c p ks ++ a ≡ field_leaves c p ls ++ b → IsShort (length p) a → IsShort (length p) b → FieldsAlike a b ks ls
  fields_alike no_kinds no_kinds c p a b e ha hb = record { rest = e; deep = refl; rising = λ low h. h }
  fields_alike no_kinds (field_kind m other l ls) c p a b e ha hb = absurd (no_field c p m other l ls a b e ha)
  fields_alike (field_kind n name k ks) no_kinds c p a b e ha hb = absurd (no_field c p n name k ks b a (sym e) hb)
  fields_alike (field_kind n name k ks) (field_kind m other l ls) c p a b e ha hb =
      let f : leaves c (p ++ n ∷ []) k ++ (field_leaves c p ks ++ a) ≡ leaves c (p ++ m ∷ []) l ++ (field_leaves c p ls ++ b)
      = sym (append_assoc (leaves c (p ++ n ∷ []) k) (field_leaves c p ks) a) ∙ (e ∙ append_assoc (leaves c (p ++ m ∷ []) l) (field_leaves c p ls) b) in
      let same : n ≡ m
      = last_same p n m (sym (first_path c (p ++ n ∷ []) k (field_leaves c p ks ++ a)) ∙ (ap head_path f ∙ first_path c (p ++ m ∷ []) l (field_leaves c p ls ++ b))) in
      let g : leaves c (p ++ n ∷ []) k ++ (field_leaves c p ks ++ a) ≡ leaves c (p ++ n ∷ []) l ++ (field_leaves c p ls ++ b)
      = subst (λ j. leaves c (p ++ n ∷ []) k ++ (field_leaves c p ks ++ a) ≡ leaves c (p ++ j ∷ []) l ++ (field_leaves c p ls ++ b)) (sym same) f in
      let r = kinds_alike k l c (p ++ n ∷ []) (field_leaves c p ks ++ a) (field_leaves c p ls ++ b) g (short_fields c p n ks a ha) (short_fields c p n ls b hb) in
      let s = fields_alike ks ls c p a b r.rest ha hb in
      record {
        rest = s.rest;
        deep = ap (λ d. max d (nestings ks)) r.deep ∙ ap (max (nesting l)) s.deep;
        rising = λ low h. fields_rise low n m k l ks ls same r.rising s.rising h;
      }

abbrev columns_fine : ℕ → List (ℕ × Kind) → Type 0
columns_fine low cs = IsTrue (rises_above low (map (λ c. c.0) cs)) × IsTrue (list_all is_shallow cs)

short_layout : (cs : List (ℕ × Kind)) → IsShort 0 (layout_of cs)
short_layout [] = tt
short_layout (c ∷ cs) = short_from 0 c.0 [] c.1 (layout_of cs) (omega arith)

columns_alike : (cs ds : List (ℕ × Kind)) (low : ℕ) → layout_of cs ≡ layout_of ds → columns_fine low ds → columns_fine low cs
columns_alike [] ds low e h = (refl, refl)
columns_alike (c ∷ cs) [] low e h = absurd (not_none c.0 [] c.1 (layout_of cs) e)
columns_alike (c ∷ cs) (d ∷ ds) low e h =
    let same : c.0 ≡ d.0 = sym (first_column c.0 [] c.1 (layout_of cs)) ∙ (ap head_column e ∙ first_column d.0 [] d.1 (layout_of ds)) in
    let f : leaves c.0 [] c.1 ++ layout_of cs ≡ leaves c.0 [] d.1 ++ layout_of ds
    = subst (λ j. leaves c.0 [] c.1 ++ layout_of cs ≡ leaves j [] d.1 ++ layout_of ds) (sym same) e in
    let r = kinds_alike c.1 d.1 c.0 [] (layout_of cs) (layout_of ds) f (short_layout cs) (short_layout ds) in
    let u = and_parts (nat_lt low d.0) (rises_above d.0 (map (λ c. c.0) ds)) h.0 in
    let w = and_parts (is_shallow d) (list_all is_shallow ds) h.1 in
    let w' = and_parts (is_rising d.1) (nat_le (nesting d.1) 4) w.0 in
    let later : columns_fine d.0 cs = columns_alike cs ds d.0 r.rest (u.1, w.1) in (
      and_from (nat_lt low c.0) _ (ap (nat_lt low) same ∙ u.0) (subst (λ j. IsTrue (rises_above j (map (λ c. c.0) cs))) (sym same) later.0),
      and_from (is_shallow c) _ (and_from (is_rising c.1) _ (r.rising w'.0) (ap (λ j. nat_le j 4) r.deep ∙ w'.1)) later.1,
    )

mutual
  store_kind_rises : (k : Kind) → IsTrue (is_store_kind k) → IsTrue (is_rising k)
  store_kind_rises (plain r) h = refl
  store_kind_rises (enumeration names) h = refl
  store_kind_rises (structured ks) h = store_kinds_rise 0 ks h

  store_kinds_rise : (low : ℕ) (ks : FieldKinds) → IsTrue (are_store_kinds low ks) → IsTrue (are_rising low ks)
  store_kinds_rise low no_kinds h = refl
  store_kinds_rise low (field_kind n name k ks) h =
      let p = and_parts (is_number n && nat_lt low n && is_store_kind k) (are_store_kinds n ks) h in
      let q = and_parts (is_number n && nat_lt low n) (is_store_kind k) p.0 in
      and_from (nat_lt low n && is_rising k) _ (and_from (nat_lt low n) _ (and_parts (is_number n) (nat_lt low n) q.0).1 (store_kind_rises k q.1)) (store_kinds_rise n ks p.1)

abbrev is_store_column : ℕ × Kind → Bool
is_store_column c = is_number c.0 && is_store_kind c.1 && nat_le (nesting c.1) 4

store_columns_fine : (cs : List (ℕ × Kind)) → IsTrue (list_all is_store_column cs) → IsTrue (list_all is_shallow cs)
store_columns_fine [] h = refl
store_columns_fine (c ∷ cs) h =
    let p = and_parts (is_store_column c) (list_all is_store_column cs) h in
    let q = and_parts (is_number c.0 && is_store_kind c.1) (nat_le (nesting c.1) 4) p.0 in
    and_from (is_shallow c) _ (and_from (is_rising c.1) _ (store_kind_rises c.1 (and_parts (is_number c.0) (is_store_kind c.1) q.0).1) q.1) (store_columns_fine cs p.1)

layout_fine : (columns : List (ℕ × Kind)) → IsLayout (layout_of columns) → columns_fine 0 columns
layout_fine columns h =
    let p = and_parts (rises_above 0 (map (λ c. c.0) h.0)) (list_all is_store_column h.0) h.2 in
    columns_alike columns h.0 0 h.1 (p.0, store_columns_fine h.0 p.1)

pub flattens_back : FlattensBack
flattens_back columns set n layout settings rising = let fine = layout_fine columns layout in flattens_back-columns columns set n fine.0 fine.1 settings
