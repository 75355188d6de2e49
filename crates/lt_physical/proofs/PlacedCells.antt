-- The cells of a column, found and gone over.
use Rattle.std.proofs.Common.{Bool, Err, List, Ok, Result, None, Option, Some, [], ap, ap₂, append_assoc, arith, cond, drop, eq-eqb, false, get_or, length, refl, sym, true, suc, zero, ℕ, ◌&&◌, ◌++◌, ◌+◌, ◌<◌, ◌==◌, ◌∙◌, ◌∷◌, ◌≡◌, ◌||◌}
use Rattle.std.specs.Prelude.{IfOk, filter_map, if◌then◌else◌, map, not}
use Rattle.std.specs.List.{cons_option}
use Rattle.std.specs.Option.{option_map_or}
use Rattle.std.proofs.lemmas.List.{drop_more, map-append}
use Rattle.lt_core.specs.View.{view_cells, view_layout, view_leaf, view_scalar}
use Rattle.lt_core.specs.declared.leaf.Leaf as core
use Rattle.lt_core.specs.declared.leaf.Scalar as core_cells
use Rattle.lt_terms.specs.Layout.{Cell, Leaf, at_path, is_present, is_unset, next_field, same_path, sets, unflatten, value_from, value_of, with_cells}
use Rattle.lt_terms.specs.Value.{Value, fields_of, null_value, struct_value}
use Rattle.lt_physical.specs.declared.values.Placed.{Placed}
use Rattle.lt_physical.specs.Placed.{fields_at, of_column, view_found, view_placed}

abbrev Pair : Type 0
Pair = Leaf × Cell

-- the first one at a path
pub found_first : (column : ℕ) (path : List ℕ) (ps : List Placed) (i : ℕ) (p : Placed) → i < length ps → p ≡ get_or ps i p → p.leaf.now.column ≡ column → same_path p.leaf.now.path path ≡ true
    → at_path column path (view_placed (drop i ps)) ≡ Some (view_found p)
found_first column path ps i p l is e f =
    ap (λ xs. at_path column path (view_placed xs)) (drop_more ps i p l ∙ ap (λ x. x ∷ drop (i + 1) ps) (sym is))
    ∙ rw (eq-eqb p.leaf.now.column column e) (rw f refl)

-- ---- the cells of one column tell what all cells tell

any_of : (column : ℕ) (cells : List Pair) → sets column (of_column column cells) ≡ sets column cells
any_of column [] = refl
any_of column (c ∷ cells) = by (c.0.column == column) refl (any_of column cells)
  where
    by : (b : Bool) → (c.0.column == column) ≡ b → sets column (of_column column cells) ≡ sets column cells
        → sets column (cond b (c ∷ of_column column cells) (of_column column cells)) ≡ (((c.0.column == column) && not (is_unset c.1)) || sets column cells)
    by true e h = ap (λ x. ((c.0.column == column) && not (is_unset c.1)) || x) h
    by false e h = h ∙ rw e refl

path_of : (column : ℕ) (path : List ℕ) (cells : List Pair) → at_path column path (of_column column cells) ≡ at_path column path cells
path_of column path [] = refl
path_of column path (c ∷ cells) = by (c.0.column == column) refl (path_of column path cells)
  where
    by : (b : Bool) → (c.0.column == column) ≡ b → at_path column path (of_column column cells) ≡ at_path column path cells
        → at_path column path (cond b (c ∷ of_column column cells) (of_column column cells)) ≡ cond ((c.0.column == column) && same_path c.0.path path) (Some c) (at_path column path cells)
    by true e h = ap (λ x. cond ((c.0.column == column) && same_path c.0.path path) (Some c) x) h
    by false e h = h ∙ rw e refl

abbrev numbers : ℕ → List ℕ → List Pair → List ℕ
numbers column path cells = filter_map (λ d. if d.0.column == column then next_field path d.0.path else None) cells

numbers_of : (column : ℕ) (path : List ℕ) (cells : List Pair) → numbers column path (of_column column cells) ≡ numbers column path cells
numbers_of column path [] = refl
numbers_of column path (c ∷ cells) = by (c.0.column == column) refl (numbers_of column path cells)
  where
    by : (b : Bool) → (c.0.column == column) ≡ b → numbers column path (of_column column cells) ≡ numbers column path cells
        → numbers column path (cond b (c ∷ of_column column cells) (of_column column cells)) ≡ numbers column path (c ∷ cells)
    by true e h = ap (λ (xs : List ℕ). cons_option (if c.0.column == column then next_field path c.0.path else None) xs) h
    by false e h = h ∙ rw e refl

map_same : {A B : Type 0} (f g : A → B) → ((x : A) → f x ≡ g x) → (xs : List A) → map f xs ≡ map g xs
map_same f g h [] = refl
map_same f g h (x ∷ xs) = ap₂ (λ y ys. y ∷ ys) (h x) (map_same f g h xs)

-- the value of what stands at a path, by the fields below it
abbrev value_by : List (ℕ × Value) → Option Pair → Value
value_by fields o = option_map_or (λ c. if c.0.presence then (if is_present c.1 then struct_value (fields_of fields) else null_value) else value_of c.0.rank c.1) o null_value

value_is : (depth column : ℕ) (path : List ℕ) (cells : List Pair) → value_from (suc depth) column path cells ≡ value_by (fields_at depth column path cells) (at_path column path cells)
value_is depth column path cells = refl

pub values_of : (depth column : ℕ) (path : List ℕ) (cells : List Pair) → value_from depth column path (of_column column cells) ≡ value_from depth column path cells
values_of zero column path cells = refl
values_of (suc depth) column path cells =
    let f = λ (all : List Pair) (n : ℕ). let at : ℕ × Value = (n, value_from depth column (path ++ n ∷ []) all) in at in
    let fields : fields_at depth column path (of_column column cells) ≡ fields_at depth column path cells =
    ap (map (f (of_column column cells))) (numbers_of column path cells)
    ∙ map_same (f (of_column column cells)) (f cells) (λ n. ap (λ v. (n, v)) (values_of depth column (path ++ n ∷ []) cells)) (numbers column path cells) in
    value_is depth column path (of_column column cells) ∙ ap₂ value_by fields (path_of column path cells) ∙ sym (value_is depth column path cells)

-- a leaf that is no presence leaf
pub primitive_at : (depth column : ℕ) (path : List ℕ) (cells : List Pair) (c : Pair) → 0 < depth → Some c ≡ at_path column path cells → c.0.presence ≡ false → value_of c.0.rank c.1 ≡ value_from depth column path cells
primitive_at zero column path cells c up e f = absurd (omega (arith, up))
primitive_at (suc depth) column path cells c up e f = plain ∙ ap (value_by (fields_at depth column path cells)) e ∙ sym (value_is depth column path cells)
  where
    plain : value_of c.0.rank c.1 ≡ value_by (fields_at depth column path cells) (Some c)
    plain = rw f refl

pub ok_to : {A E : Type 0} (r : Result A E) (P Q : A → Type 0) → IfOk r P → ((x : A) → P x → Q x) → IfOk r Q
ok_to (Ok x) P Q h k = k x h
ok_to (Err e) P Q h k = tt

-- a column's value, by its cells alone
pub unset_column : (layout : List Leaf) (cells : List Cell) (column : ℕ) → sets column (of_column column (with_cells layout cells)) ≡ false → None ≡ unflatten layout cells column
unfolding unflatten
unset_column layout cells column e = rw (sym (any_of column (with_cells layout cells))) (rw e refl)

pub set_column : (layout : List Leaf) (cells : List Cell) (column : ℕ) → sets column (of_column column (with_cells layout cells)) ≡ true → Some (value_from 5 column [] (of_column column (with_cells layout cells))) ≡ unflatten layout cells column
unfolding unflatten
set_column layout cells column e = rw (sym (any_of column (with_cells layout cells))) (rw e (ap Some (values_of 5 column [] (with_cells layout cells))))

-- ---- one leaf more of the layout

pub goes_on : (column : ℕ) (ps ps' : List Pair) (leaf : Leaf) (cell : Cell) (rest all : List Pair) (b : Bool) → (leaf.column == column) ≡ b → ps' ≡ (if b then ps ++ (leaf, cell) ∷ [] else ps)
    → ps ++ of_column column ((leaf, cell) ∷ rest) ≡ all → ps' ++ of_column column rest ≡ all
goes_on column ps ps' leaf cell rest all true e f h = ap (λ x. x ++ of_column column rest) f ∙ append_assoc ps ((leaf, cell) ∷ []) (of_column column rest) ∙ ap (λ x. ps ++ x) (kept e) ∙ h
  where
    kept : (leaf.column == column) ≡ true → (leaf, cell) ∷ of_column column rest ≡ of_column column ((leaf, cell) ∷ rest)
    kept e = rw e refl
goes_on column ps ps' leaf cell rest all false e f h = ap (λ x. x ++ of_column column rest) f ∙ ap (λ x. ps ++ x) (gone e) ∙ h
  where
    gone : (leaf.column == column) ≡ false → of_column column rest ≡ of_column column ((leaf, cell) ∷ rest)
    gone e = rw e refl

-- where a leaf and a cell stand next
pub opened : (column : ℕ) (leaves : List core.Leaf) (i : ℕ) (leaf : core.Leaf) (cells behind : List core_cells.Scalar) (cell : core_cells.Scalar) (ps all : List Pair) → i < length leaves → leaf ≡ get_or leaves i leaf
    → cells ≡ cell ∷ behind → ps ++ of_column column (with_cells (view_layout (drop i leaves)) (view_cells cells)) ≡ all
    → ps ++ of_column column ((view_leaf leaf, view_scalar cell) ∷ with_cells (view_layout (drop (i + 1) leaves)) (view_cells behind)) ≡ all
opened column leaves i leaf cells behind cell ps all l is r h =
    ap₂ (λ ls cs. ps ++ of_column column (with_cells (view_layout ls) (view_cells cs))) (sym (drop_more leaves i leaf l ∙ ap (λ x. x ∷ drop (i + 1) leaves) (sym is))) (sym r) ∙ h

pub placed_more : (ps : List Placed) (p : Placed) → view_placed (ps ++ p ∷ []) ≡ view_placed ps ++ view_found p ∷ []
placed_more ps p = map-append view_found ps (p ∷ [])
