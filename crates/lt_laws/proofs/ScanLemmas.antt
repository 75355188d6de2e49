-- What is stored of the changes of a table reads as the rows that they make.
use Rattle.std.proofs.Common.{List, [], ap, arith, eq-eqb, eqb-true, false, inl, inr, le-ltb, leb-false, leb-true, lt-ltb, ltb-true, refl, subst, sym, true, ℕ, ◌++◌, ◌∙◌, ◌∷◌, ◌≡◌}
use Rattle.std.specs.Prelude.{Bool, Contains, IsTrue, None, Option, Some, cond, filter, find, fold, map, nat_le, nat_lt, option_and_then, option_map, unwrap_or, ◌&&◌, ◌<◌, ◌==◌, ◌||◌, ◌≤◌, ◌⊎◌}
use Rattle.std.specs.Option.{option_map_or, option_or}
use Rattle.std.specs.List.{AllByRecursion, list_all}
use Rattle.std.proofs.lemmas.Bool.{and_from, and_parts, false≢true, lt-leb}
use Rattle.std.specs.Ordering.{is_eq, is_lt}
use Rattle.std.proofs.lemmas.Cmp.{nat_list_cmp_total, tied_itself}
use Rattle.std.proofs.lemmas.List.Elements.{Contains-append_cases, Contains-append_left, Contains-append_right, Contains-push, Contains-push_cases}
use Rattle.lt_terms.specs.Value.{Value, is_value, rises_above, rises_strictly}
use Rattle.lt_terms.specs.Layout.{Cell, Leaf, field_leaves, flatten, is_unset, layout_of, leaf_cell, leaves, setting, unflatten, unset, value_along}
use Rattle.lt_terms.specs.declared.Op.{Op}
use Rattle.lt_terms.specs.Log.{Change, change_key}
use Rattle.lt_terms.specs.Kind.{FieldKinds, Kind, enumeration, field_kind, has_shape, nesting, no_kinds, plain, structured}
use Rattle.lt_terms.specs.Conversion.{conv}
use Rattle.lt_terms.specs.Key.{below, same_key}
use Rattle.lt_tables.specs.Version.{RowVersion, asof, carried, effect, effect_by, effect_of, is_ordered, overlay, read_cells, seen, stands_before}
use Rattle.lt_tables.specs.Row.{Row, after_change, is_in_time, read_row, row_after, row_at, row_by}
use Rattle.lt_tables.specs.Schema.{Catalogue, Column, Table, carrier, carrier_layout, carriers, carriers_of, column_live, column_numbers, fallback, table_numbered}
use Rattle.lt_tables.specs.Fair.{changes_to}
use Rattle.lt_machine.specs.Sound.{row_cells, up_to_ts}
use Rattle.lt_machine.specs.Laws.{is_struct_where, lies_within}
use Rattle.lt_lemmas.proofs.ConversionLemmas.{is_rising}
use Rattle.lt_lemmas.proofs.RowLemmas.{reads_in_order}
use Rattle.lt_lemmas.proofs.MergeLaws.{Above, filter-ordered, named, ordered-above, ordered-cons, ordered-tail, same-key}
use Rattle.lt_laws.proofs.FlattenLemmas.{cell_set, flattens_back-columns}
use Rattle.lt_laws.proofs.ConversionLemmas.{conv_shape, conversion_laws}
use Rattle.lt_laws.proofs.ListLaws.{asof-effect}
use Rattle.lt_laws.proofs.MergeLaws.{ordered-unique}
use Rattle.lt_terms.specs.declared.Op.TheVariants as ops
use Rattle.lt_lemmas.proofs.SnapshotLaws.{or_right}

-- ---- settings over settings

setting_by : (b : Bool) (v : Value) (o p : Option Value) → cond b (Some v) (option_or o p) ≡ option_or (cond b (Some v) o) p
setting_by true v o p = refl
setting_by false v o p = refl

-- what stands first counts
pub setting-append : (n : ℕ) (a b : List (ℕ × Value)) → setting n (a ++ b) ≡ option_or (setting n a) (setting n b)
setting-append n [] b = refl
setting-append n (s ∷ a) b = ap (cond (n == s.0) (Some s.1)) (setting-append n a b) ∙ setting_by (n == s.0) s.1 (setting n a) (setting n b)

-- the cell of a value is set
pub leaf_cell-set : (l : Leaf) (v : Value) → is_unset (leaf_cell l v) ≡ false
leaf_cell-set l v = cell_set l.presence (value_along l.path v)

over_by : (l : Leaf) (o p : Option Value) → cond (is_unset (option_map_or (leaf_cell l) o unset)) (option_map_or (leaf_cell l) p unset) (option_map_or (leaf_cell l) o unset) ≡ option_map_or (leaf_cell l) (option_or o p) unset
over_by l None p = refl
over_by l (Some v) p = ap (λ b. cond b (option_map_or (leaf_cell l) p unset) (leaf_cell l v)) (leaf_cell-set l v)

-- the cells of settings, laid over those of earlier ones, are the cells of both
pub flatten-append : (layout : List Leaf) (a b : List (ℕ × Value)) → overlay (flatten layout b) (flatten layout a) ≡ flatten layout (a ++ b)
flatten-append [] a b = refl
flatten-append (l ∷ layout) a b = ap (λ c. c ∷ overlay (flatten layout b) (flatten layout a)) (over_by l (setting l.column a) (setting l.column b) ∙ ap (λ o. option_map_or (leaf_cell l) o unset) (sym (setting-append l.column a b)))
    ∙ ap (λ cs. option_map_or (leaf_cell l) (setting l.column (a ++ b)) unset ∷ cs) (flatten-append layout a b)

map_append : (f : ℕ × Value → ℕ × Value) (a b : List (ℕ × Value)) → map f a ++ map f b ≡ map f (a ++ b)
map_append f [] b = refl
map_append f (s ∷ a) b = ap (λ r. f s ∷ r) (map_append f a b)

-- ---- changes, in cells

by_row : (layout : List Leaf) (f : ℕ × Value → ℕ × Value) (o : Op) (set : List (ℕ × Value)) (row : Row) → effect_by o (flatten layout (map f set)) (option_map (λ s. flatten layout (map f s)) row) ≡ option_map (λ s. flatten layout (map f s)) (row_by o set row)
by_row layout f ops.Insert set row = refl
by_row layout f ops.Delete set row = refl
by_row layout f ops.Update set None = refl
by_row layout f ops.Update set (Some was) = ap Some (flatten-append layout (map f set) (map f was) ∙ ap (flatten layout) (map_append f set was))

-- what a change makes of a row, in cells
pub effect-seen : (cat : Catalogue) (table : ℕ) (row : Row) (c : Change) → c.table ≡ table → effect (row_cells cat table row) (seen cat c) ≡ row_cells cat table (after_change row c)
unfolding seen
effect-seen cat table row c e = ap (λ n. effect_by c.op (flatten (carriers cat n) (map (carried cat n) c.set)) (row_cells cat table row)) e ∙ by_row (carriers cat table) (carried cat table) c.op c.set row

abbrev pub AreOf : ℕ → List Change → Type 0
AreOf table cs = AllByRecursion (λ c. c.table ≡ table) cs

-- changes, the earliest first
pub fold-seen : (cat : Catalogue) (table : ℕ) (row : Row) (cs : List Change) → AreOf table cs → fold effect (row_cells cat table row) (map (seen cat) cs) ≡ row_cells cat table (fold after_change row cs)
fold-seen cat table row [] h = refl
fold-seen cat table row (c ∷ cs) h = ap (λ r. fold effect r (map (seen cat) cs)) (effect-seen cat table row c h.0) ∙ fold-seen cat table (after_change row c) cs h.1

-- versions, the latest first
abbrev pub effect_onto : Option (List Cell) → List RowVersion → Option (List Cell)
effect_onto row [] = row
effect_onto row (v ∷ vs) = effect (effect_onto row vs) v

pub effect-append : (vs ws : List RowVersion) → effect_of (vs ++ ws) ≡ effect_onto (effect_of ws) vs
effect-append [] ws = refl
effect-append (v ∷ vs) ws = ap (λ r. effect r v) (effect-append vs ws)

-- the versions that changes are seen as, the latest first
abbrev pub seen_back : Catalogue → List Change → List RowVersion
seen_back cat [] = []
seen_back cat (c ∷ cs) = seen_back cat cs ++ seen cat c ∷ []

pub onto-append : (row : Option (List Cell)) (vs ws : List RowVersion) → effect_onto row (vs ++ ws) ≡ effect_onto (effect_onto row ws) vs
onto-append row [] ws = refl
onto-append row (v ∷ vs) ws = ap (λ r. effect r v) (onto-append row vs ws)

-- the effect of the changes of a table, seen, on a row in cells is the row after them in cells
pub effect-back : (cat : Catalogue) (table : ℕ) (row : Row) (cs : List Change) → AreOf table cs → effect_onto (row_cells cat table row) (seen_back cat cs) ≡ row_cells cat table (fold after_change row cs)
effect-back cat table row [] h = refl
effect-back cat table row (c ∷ cs) h = onto-append (row_cells cat table row) (seen_back cat cs) (seen cat c ∷ [])
    ∙ ap (λ r. effect_onto r (seen_back cat cs)) (effect-seen cat table row c h.0) ∙ effect-back cat table (after_change row c) cs h.1

onto_none : (vs : List RowVersion) → effect_of vs ≡ effect_onto None vs
onto_none [] = refl
onto_none (v ∷ vs) = ap (λ r. effect r v) (onto_none vs)

pub effect-changes : (cat : Catalogue) (table : ℕ) (cs : List Change) → AreOf table cs → effect_of (seen_back cat cs) ≡ row_cells cat table (row_after cs)
effect-changes cat table cs h = onto_none (seen_back cat cs) ∙ effect-back cat table None cs h

-- ---- settings of which only some columns are in a layout

abbrev pub kind_for : List (ℕ × Kind) → ℕ → Option (ℕ × Kind)
kind_for kinds n = find (λ c. c.0 == n) kinds

-- numbers that rise, and structs nested at most 4 deep
abbrev pub AreFine : List (ℕ × Kind) → Type 0
AreFine kinds = IsTrue (rises_above 0 (map (λ c. c.0) kinds)) × IsTrue (list_all (λ c. is_rising c.1 && nat_le (nesting c.1) 4) kinds)

-- a setting of one of the columns has its kind's shape
abbrev pub Fits : List (ℕ × Kind) → ℕ × Value → Type 0
Fits kinds s = (x : ℕ × Kind) → kind_for kinds s.0 ≡ Some x → IsTrue (has_shape s.1 x.1)

abbrev fits : List (ℕ × Kind) → ℕ × Value → Bool
fits kinds s = option_map_or (λ c. has_shape s.1 c.1) (kind_for kinds s.0) false

fits_when : (kinds : List (ℕ × Kind)) (s : ℕ × Value) (x : ℕ × Kind) → Fits kinds s → kind_for kinds s.0 ≡ Some x → fits kinds s ≡ true
fits_when kinds s x h e = ap (λ o. option_map_or (λ c. has_shape s.1 c.1) o false) e ∙ h x e

kept_setting : (n : ℕ) (s : ℕ × Value) (kept set : List (ℕ × Value)) (b f : Bool) → (b ≡ true → f ≡ true) → setting n kept ≡ setting n set → (n == s.0) ≡ b → setting n (cond f (s ∷ kept) kept) ≡ cond b (Some s.1) (setting n set)
kept_setting n s kept set true true h i e = ap (λ b. cond b (Some s.1) (setting n kept)) e
kept_setting n s kept set true false h i e = absurd (false≢true (h refl))
kept_setting n s kept set false true h i e = ap (λ b. cond b (Some s.1) (setting n kept)) e ∙ i
kept_setting n s kept set false false h i e = i

fitting : (kinds : List (ℕ × Kind)) (n : ℕ) (x : ℕ × Kind) (set : List (ℕ × Value)) → kind_for kinds n ≡ Some x → AllByRecursion (Fits kinds) set → setting n (filter (fits kinds) set) ≡ setting n set
fitting kinds n x [] e h = refl
fitting kinds n x (s ∷ set) e h = kept_setting n s (filter (fits kinds) set) set (n == s.0) (fits kinds s)
    (λ b. fits_when kinds s x h.0 (ap (kind_for kinds) (sym (eqb-true n s.0 b)) ∙ e)) (fitting kinds n x set e h.1) refl

all_kept_by : (p : ℕ × Value → Bool) (s : ℕ × Value) (kept : List (ℕ × Value)) (b : Bool) → p s ≡ b → list_all p kept ≡ true → list_all p (cond b (s ∷ kept) kept) ≡ true
all_kept_by p s kept true e h = and_from (p s) (list_all p kept) e h
all_kept_by p s kept false e h = h

all_kept : (p : ℕ × Value → Bool) (set : List (ℕ × Value)) → list_all p (filter p set) ≡ true
all_kept p [] = refl
all_kept p (s ∷ set) = all_kept_by p s (filter p set) (p s) refl (all_kept p set)

-- the columns of leaves
abbrev InColumns : (ℕ → Type 0) → List Leaf → Type 0
InColumns P [] = Unit {0}
InColumns P (l ∷ ls) = P l.column × InColumns P ls

in_append : (P : ℕ → Type 0) (a b : List Leaf) → InColumns P a → InColumns P b → InColumns P (a ++ b)
in_append P [] b h i = i
in_append P (l ∷ a) b h i = (h.0, in_append P a b h.1 i)

mutual
  in_leaves : (P : ℕ → Type 0) (c : ℕ) (p : List ℕ) (k : Kind) → P c → InColumns P (leaves c p k)
  in_leaves P c p (plain r) h = (h, tt)
  in_leaves P c p (enumeration names) h = (h, tt)
  in_leaves P c p (structured ks) h = (h, in_fields P c p ks h)

  in_fields : (P : ℕ → Type 0) (c : ℕ) (p : List ℕ) (ks : FieldKinds) → P c → InColumns P (field_leaves c p ks)
  in_fields P c p no_kinds h = tt
  in_fields P c p (field_kind n name k ks) h = in_append P (leaves c (p ++ n ∷ []) k) (field_leaves c p ks) (in_leaves P c (p ++ n ∷ []) k h) (in_fields P c p ks h)

abbrev IsFound : List (ℕ × Kind) → ℕ → Type 0
IsFound kinds n = (x : ℕ × Kind) × (kind_for kinds n ≡ Some x)

found_by : (c : ℕ × Kind) (kinds : List (ℕ × Kind)) (n : ℕ) (b : Bool) → (c.0 == n) ≡ b → IsFound kinds n → IsFound (c ∷ kinds) n
found_by c kinds n true e h = (c, ap (λ b. cond b (Some c) (kind_for kinds n)) e)
found_by c kinds n false e h = (h.0, ap (λ b. cond b (Some c) (kind_for kinds n)) e ∙ h.1)

in_all : (P Q : ℕ → Type 0) → ((n : ℕ) → P n → Q n) → (ls : List Leaf) → InColumns P ls → InColumns Q ls
in_all P Q f [] h = tt
in_all P Q f (l ∷ ls) h = (f l.column h.0, in_all P Q f ls h.1)

all_found : (kinds : List (ℕ × Kind)) → InColumns (IsFound kinds) (layout_of kinds)
all_found [] = tt
all_found (c ∷ kinds) = in_append (IsFound (c ∷ kinds)) (leaves c.0 [] c.1) (layout_of kinds)
    (in_leaves (IsFound (c ∷ kinds)) c.0 [] c.1 (c, ap (λ b. cond b (Some c) (kind_for kinds c.0)) (eq-eqb c.0 c.0 refl)))
    (in_all (IsFound kinds) (IsFound (c ∷ kinds)) (λ n h. found_by c kinds n (c.0 == n) refl h) (layout_of kinds) (all_found kinds))

same_cells : (a b : List (ℕ × Value)) (ls : List Leaf) → InColumns (λ n. setting n a ≡ setting n b) ls → flatten ls a ≡ flatten ls b
same_cells a b [] h = refl
same_cells a b (l ∷ ls) h = ap (λ o. option_map_or (leaf_cell l) o unset ∷ flatten ls a) h.0 ∙ ap (λ cs. option_map_or (leaf_cell l) (setting l.column b) unset ∷ cs) (same_cells a b ls h.1)

-- what was set of a column reads back from the cells, whatever else was set of columns that the layout lacks
pub unflatten-fitting : (kinds : List (ℕ × Kind)) (set : List (ℕ × Value)) (n : ℕ) (x : ℕ × Kind) → AreFine kinds → AllByRecursion (Fits kinds) set → kind_for kinds n ≡ Some x
    → unflatten (layout_of kinds) (flatten (layout_of kinds) set) n ≡ setting n set
unflatten-fitting kinds set n x fine h e =
    ap (λ cells. unflatten (layout_of kinds) cells n) (sym (same_cells (filter (fits kinds) set) set (layout_of kinds)
    (in_all (IsFound kinds) (λ m. setting m (filter (fits kinds) set) ≡ setting m set) (λ m f. fitting kinds m f.0 set f.1 h) (layout_of kinds) (all_found kinds))))
    ∙ flattens_back-columns kinds (filter (fits kinds) set) n fine.0 fine.1 (all_kept (fits kinds) set) ∙ fitting kinds n x set e h

-- ---- reading by a version

setting_map_by : (f : ℕ → Value → Value) (n : ℕ) (s : ℕ × Value) (o p : Option Value) (b : Bool) → (n == s.0) ≡ b → o ≡ option_map (f n) p → cond b (Some (f s.0 s.1)) o ≡ option_map (f n) (cond b (Some s.1) p)
setting_map_by f n s o p true e h = ap (λ m. Some (f m s.1)) (sym (eqb-true n s.0 e))
setting_map_by f n s o p false e h = h

pub setting-map : (f : ℕ → Value → Value) (n : ℕ) (set : List (ℕ × Value)) → setting n (map (λ s. (s.0, f s.0 s.1)) set) ≡ option_map (f n) (setting n set)
setting-map f n [] = refl
setting-map f n (s ∷ set) = setting_map_by f n s (setting n (map (λ s. (s.0, f s.0 s.1)) set)) (setting n set) (n == s.0) refl (setting-map f n set)

abbrev pub at_carrier : Table → ℕ → Value → Value
at_carrier t n v = option_map_or (conv v) (carrier t n) v

found_carrier_by : (t : Table) (n m : ℕ) (ns : List ℕ) (x : ℕ × Kind) (o : Option Kind) (b : Bool) → carrier t m ≡ o → (m == n) ≡ b → (kind_for (carriers_of t ns) n ≡ Some x → carrier t n ≡ Some x.1)
    → option_map_or (λ y. cond (y.0 == n) (Some y) (kind_for (carriers_of t ns) n)) (option_map (λ k. (m, k)) o) (kind_for (carriers_of t ns) n) ≡ Some x → carrier t n ≡ Some x.1
found_carrier_by t n m ns x None b c e h i = h i
found_carrier_by t n m ns x (Some k) true c e h i = let p : Some (m, k) ≡ Some x = ap (λ b. cond b (Some (m, k)) (kind_for (carriers_of t ns) n)) (sym e) ∙ i in
    let q : (m, k) ≡ x = cc in ap (carrier t) (sym (eqb-true m n e)) ∙ c ∙ ap (λ y. Some y.1) q
found_carrier_by t n m ns x (Some k) false c e h i = h (ap (λ b. cond b (Some (m, k)) (kind_for (carriers_of t ns) n)) (sym e) ∙ i)

put_or : (t : Table) (n m : ℕ) (ns : List ℕ) (o : Option Kind) → carrier t m ≡ o → kind_for (carriers_of t (m ∷ ns)) n ≡ option_map_or (λ y. cond (y.0 == n) (Some y) (kind_for (carriers_of t ns) n)) (option_map (λ k. (m, k)) o) (kind_for (carriers_of t ns) n)
put_or t n m ns None e = rw e refl
put_or t n m ns (Some k) e = rw e refl

-- a column found among the carriers has its carrier
pub found-carrier : (t : Table) (n : ℕ) (ns : List ℕ) (x : ℕ × Kind) → kind_for (carriers_of t ns) n ≡ Some x → carrier t n ≡ Some x.1
found-carrier t n [] x h = cc
found-carrier t n (m ∷ ns) x h = found_carrier_by t n m ns x (carrier t m) (m == n) refl refl (found-carrier t n ns x) (sym (put_or t n m ns (carrier t m) refl) ∙ h)

-- a value that was set lies within its column's carrier
pub record IsWithin (t : Table) (s : ℕ × Value) : Type 0 where
  pub depth : ℕ
  pub value : IsTrue (is_value depth s.1)
  pub within : (k : Kind) → carrier t s.0 ≡ Some k → IsTrue (lies_within s.1 k)

-- a column of a version is live, and a struct where its carrier is one
pub record IsCarried (t : Table) (ns : List ℕ) (c : Column) : Type 0 where
  pub kind : ℕ × Kind
  pub found : kind_for (carriers_of t ns) c.number ≡ Some kind
  pub alike : IsTrue (is_struct_where kind.1 c.kind)

carried_fits : (t : Table) (ns : List ℕ) (set : List (ℕ × Value)) → AllByRecursion (IsWithin t) set → AllByRecursion (Fits (carriers_of t ns)) (map (λ s. (s.0, at_carrier t s.0 s.1)) set)
carried_fits t ns [] h = tt
carried_fits t ns (s ∷ set) h = (
  λ x e. subst (λ o. IsTrue (has_shape (option_map_or (conv s.1) o s.1) x.1)) (sym (found-carrier t s.0 ns x e)) (conv_shape h.0.depth s.1 x.1 h.0.value),
  carried_fits t ns set h.1,
)

set_within : (t : Table) (n m : ℕ) (v w : Value) (o : Option Value) (b : Bool) (k : Kind) → (n == m) ≡ b → ((k : Kind) → carrier t m ≡ Some k → IsTrue (lies_within w k)) → (o ≡ Some v → IsTrue (lies_within v k)) → carrier t n ≡ Some k
    → cond b (Some w) o ≡ Some v → IsTrue (lies_within v k)
set_within t n m v w o true k e h i c f = let g : w ≡ v = cc in subst (λ u. IsTrue (lies_within u k)) g (h k (ap (carrier t) (sym (eqb-true n m e)) ∙ c))
set_within t n m v w o false k e h i c f = i f

setting_within : (t : Table) (n : ℕ) (v : Value) (k : Kind) (set : List (ℕ × Value)) → AllByRecursion (IsWithin t) set → carrier t n ≡ Some k → setting n set ≡ Some v → IsTrue (lies_within v k)
setting_within t n v k [] h c e = cc
setting_within t n v k (s ∷ set) h c e = set_within t n s.0 v s.1 (setting n set) (n == s.0) k refl h.0.within (setting_within t n v k set h.1 c) c e

read_one : (c k : Kind) (d : Value) (o p : Option Kind) (s : Option Value) → p ≡ Some c → ((v : Value) → s ≡ Some v → IsTrue (lies_within v c)) → IsTrue (is_struct_where c k)
    → conv (unwrap_or (option_map (λ v. option_map_or (conv v) p v) s) d) k ≡ conv (unwrap_or s d) k
read_one c k d o p None e h i = refl
read_one c k d o p (Some v) e h i = ap (λ q. conv (option_map_or (conv v) q v) k) e ∙ conversion_laws.through v c k (h v refl) i

-- Cells under carriers, read by a version, are the row of what was set.
pub read-cells : (t : Table) (ns : List ℕ) (columns : List Column) (set : List (ℕ × Value)) → AreFine (carriers_of t ns) → AllByRecursion (IsWithin t) set → AllByRecursion (IsCarried t ns) columns
    → read_cells t columns (layout_of (carriers_of t ns)) (flatten (layout_of (carriers_of t ns)) (map (λ s. (s.0, at_carrier t s.0 s.1)) set)) ≡ read_row t columns set
read-cells t ns [] set fine h i = refl
read-cells t ns (c ∷ columns) set fine h i =
    let e = unflatten-fitting (carriers_of t ns) (map (λ s. (s.0, at_carrier t s.0 s.1)) set) c.number i.0.kind fine (carried_fits t ns set h) i.0.found ∙ setting-map (at_carrier t) c.number set in
    let f = found-carrier t c.number ns i.0.kind i.0.found in
    ap (λ o. conv (unwrap_or o (fallback t c.number)) c.kind ∷ read_cells t columns (layout_of (carriers_of t ns)) (flatten (layout_of (carriers_of t ns)) (map (λ s. (s.0, at_carrier t s.0 s.1)) set))) e
    ∙ ap (λ v. v ∷ read_cells t columns (layout_of (carriers_of t ns)) (flatten (layout_of (carriers_of t ns)) (map (λ s. (s.0, at_carrier t s.0 s.1)) set)))
    (read_one i.0.kind.1 c.kind (fallback t c.number) None (carrier t c.number) (setting c.number set) f (λ v g. setting_within t c.number v i.0.kind.1 set h f g) i.0.alike)
    ∙ ap (λ vs. conv (unwrap_or (setting c.number set) (fallback t c.number)) c.kind ∷ vs) (read-cells t ns columns set fine h i.1)

-- the same under the carriers of a catalogue
pub read-carried : (cat : Catalogue) (t : Table) (columns : List Column) (set : List (ℕ × Value)) → table_numbered cat t.number ≡ Some t
    → AreFine (carriers_of t (filter (column_live t) (column_numbers t))) → AllByRecursion (IsWithin t) set → AllByRecursion (IsCarried t (filter (column_live t) (column_numbers t))) columns
    → read_cells t columns (carriers cat t.number) (flatten (carriers cat t.number) (map (carried cat t.number) set)) ≡ read_row t columns set
unfolding carrier_layout
read-carried cat t columns set e fine h i =
    ap (λ o. read_cells t columns (option_map_or carrier_layout o []) (flatten (option_map_or carrier_layout o []) (map (λ s. (s.0, option_map_or (conv s.1) (option_and_then (λ u. carrier u s.0) o) s.1)) set))) e
    ∙ read-cells t (filter (column_live t) (column_numbers t)) columns set fine h i

-- ---- of one key: what is above a moment, and what is up to it

fold_append : (row : Row) (a b : List Change) → fold after_change row (a ++ b) ≡ fold after_change (fold after_change row a) b
fold_append row [] b = refl
fold_append row (c ∷ a) b = fold_append (after_change row c) a b

-- the changes above one moment, up to another
abbrev pub between : ℕ → ℕ → List Change → List Change
between m t cs = filter (λ c. nat_lt m c.ts && nat_le c.ts t) cs

abbrev up_to : ℕ → List Change → List Change
up_to t cs = filter (λ c. nat_le c.ts t) cs

none_up : (m low : ℕ) (cs : List Change) → m ≤ low → IsTrue (rises_above low (map (λ c. c.ts) cs)) → up_to m cs ≡ []
none_up m low [] h r = refl
none_up m low (c ∷ cs) h r = let p = and_parts (nat_lt low c.ts) (rises_above c.ts (map (λ c. c.ts) cs)) r in let l = ltb-true low c.ts p.0 in
    ap (λ b. cond b (c ∷ up_to m cs) (up_to m cs)) (lt-leb c.ts m (omega arith)) ∙ none_up m c.ts cs (omega arith) p.1

split_by : (m t : ℕ) (c : Change) (cs : List Change) (low up : Bool) → nat_le c.ts m ≡ low → nat_le c.ts t ≡ up → m ≤ t → IsTrue (rises_above c.ts (map (λ c. c.ts) cs)) → up_to t cs ≡ up_to m cs ++ between m t cs
    → cond up (c ∷ up_to t cs) (up_to t cs) ≡ cond low (c ∷ up_to m cs) (up_to m cs) ++ cond (nat_lt m c.ts && up) (c ∷ between m t cs) (between m t cs)
split_by m t c cs true true e f h r i = let l = leb-true c.ts m e in
    ap (λ l. c ∷ l) i ∙ ap (λ b. (c ∷ up_to m cs) ++ cond (b && true) (c ∷ between m t cs) (between m t cs)) (sym (le-ltb m c.ts l))
split_by m t c cs true false e f h r i = let l = leb-true c.ts m e in let k = leb-false c.ts t f in absurd (omega arith)
split_by m t c cs false true e f h r i = let l = leb-false c.ts m e in let n = none_up m c.ts cs (omega arith) r in
    ap (λ l. c ∷ l) (i ∙ ap (λ l. l ++ between m t cs) n) ∙ ap (λ b. [] ++ cond (b && true) (c ∷ between m t cs) (between m t cs)) (sym (lt-ltb m c.ts (omega arith))) ∙ ap (λ l. l ++ cond (nat_lt m c.ts && true) (c ∷ between m t cs) (between m t cs)) (sym n)
split_by m t c cs false false e f h r i = let l = leb-false c.ts m e in
    i ∙ ap (λ b. up_to m cs ++ cond (b && false) (c ∷ between m t cs) (between m t cs)) (sym (lt-ltb m c.ts (omega arith)))

split_above : (m t low : ℕ) (cs : List Change) → m ≤ t → IsTrue (rises_above low (map (λ c. c.ts) cs)) → up_to t cs ≡ up_to m cs ++ between m t cs
split_above m t low [] h r = refl
split_above m t low (c ∷ cs) h r = let p = and_parts (nat_lt low c.ts) (rises_above c.ts (map (λ c. c.ts) cs)) r in split_by m t c cs (nat_le c.ts m) (nat_le c.ts t) refl refl h p.1 (split_above m t c.ts cs h p.1)

-- changes that rise, up to a moment, are those up to an earlier one and then those between
pub split-changes : (m t : ℕ) (cs : List Change) → m ≤ t → IsTrue (rises_strictly (map (λ c. c.ts) cs)) → up_to t cs ≡ up_to m cs ++ between m t cs
split-changes m t [] h r = refl
split-changes m t (c ∷ cs) h r = split_by m t c cs (nat_le c.ts m) (nat_le c.ts t) refl refl h r (split_above m t c.ts cs h r)

-- a key's row at a moment, from an earlier one
pub row-between : (source : List Change) (key : List ℕ) (m t : ℕ) → m ≤ t → IsTrue (is_in_time key source) → row_at source key t ≡ fold after_change (row_at source key m) (between m t (changes_to key source))
row-between source key m t h r = reads_in_order source key t r ∙ ap row_after (split-changes m t (changes_to key source) h r)
    ∙ fold_append None (up_to m (changes_to key source)) (between m t (changes_to key source)) ∙ ap (λ row. fold after_change row (between m t (changes_to key source))) (sym (reads_in_order source key m r))

-- the versions of a key above one moment, up to another
abbrev pub between_of : List ℕ → ℕ → ℕ → List RowVersion → List RowVersion
between_of key m t vs = filter (λ v. same_key v.key key && (nat_lt m v.ts && nat_le v.ts t)) vs

-- of one key a version stands before the earlier ones
falls : (key : List ℕ) (v w : RowVersion) → same_key v.key key ≡ true → same_key w.key key ≡ true → IsTrue (stands_before v w) → w.ts < v.ts
falls key v w h i s =
    let b : below key key ≡ false = ap is_lt (tied_itself nat_list_cmp_total key) in
    let e : (below key key || (same_key key key && nat_lt w.ts v.ts)) ≡ true = ap (λ x. below key x || (same_key key x && nat_lt w.ts v.ts)) (sym (same-key w.key key i)) ∙ ap (λ x. below x w.key || (same_key x w.key && nat_lt w.ts v.ts)) (sym (same-key v.key key h)) ∙ s in
    ltb-true w.ts v.ts (and_parts (same_key key key) (nat_lt w.ts v.ts) (ap (λ x. x || (same_key key key && nat_lt w.ts v.ts)) (sym b) ∙ e)).1

none_by : (key : List ℕ) (m t : ℕ) (v w : RowVersion) (rest : List RowVersion) (b : Bool) → same_key w.key key ≡ b → same_key v.key key ≡ true → v.ts ≤ m → IsTrue (stands_before v w) → rest ≡ []
    → cond (b && (nat_lt m w.ts && nat_le w.ts t)) (w ∷ rest) rest ≡ []
none_by key m t v w rest false e h l s i = i
none_by key m t v w rest true e h l s i = let f = falls key v w h e s in ap (λ b. cond (b && nat_le w.ts t) (w ∷ rest) rest) (le-ltb m w.ts (omega arith)) ∙ i

none_between : (key : List ℕ) (m t : ℕ) (v : RowVersion) (vs : List RowVersion) → same_key v.key key ≡ true → v.ts ≤ m → Above v vs → between_of key m t vs ≡ []
none_between key m t v [] h l a = refl
none_between key m t v (w ∷ vs) h l a = none_by key m t v w (between_of key m t vs) (same_key w.key key) refl h l a.0 (none_between key m t v vs h l a.1)

held_by : (key : List ℕ) (m t : ℕ) (v : RowVersion) (vs : List RowVersion) (s low up : Bool) → same_key v.key key ≡ s → nat_le v.ts m ≡ low → nat_le v.ts t ≡ up → m ≤ t → Above v vs → up_to_ts key t vs ≡ between_of key m t vs ++ up_to_ts key m vs
    → cond (s && up) (v ∷ up_to_ts key t vs) (up_to_ts key t vs) ≡ cond (s && (nat_lt m v.ts && up)) (v ∷ between_of key m t vs) (between_of key m t vs) ++ cond (s && low) (v ∷ up_to_ts key m vs) (up_to_ts key m vs)
held_by key m t v vs false low up e f g h a i = i
held_by key m t v vs true true true e f g h a i = let l = leb-true v.ts m f in let n = none_between key m t v vs e l a in
    ap (λ l. v ∷ l) (i ∙ ap (λ l. l ++ up_to_ts key m vs) n) ∙ ap (λ l. l ++ (v ∷ up_to_ts key m vs)) (sym n)
    ∙ ap (λ b. cond (b && true) (v ∷ between_of key m t vs) (between_of key m t vs) ++ (v ∷ up_to_ts key m vs)) (sym (le-ltb m v.ts l))
held_by key m t v vs true true false e f g h a i = let l = leb-true v.ts m f in let k = leb-false v.ts t g in absurd (omega arith)
held_by key m t v vs true false true e f g h a i = let l = leb-false v.ts m f in
    ap (λ l. v ∷ l) i ∙ ap (λ b. cond (b && true) (v ∷ between_of key m t vs) (between_of key m t vs) ++ up_to_ts key m vs) (sym (lt-ltb m v.ts (omega arith)))
held_by key m t v vs true false false e f g h a i = let l = leb-false v.ts m f in
    i ∙ ap (λ b. cond (b && false) (v ∷ between_of key m t vs) (between_of key m t vs) ++ up_to_ts key m vs) (sym (lt-ltb m v.ts (omega arith)))

-- a key's versions up to a moment are those above an earlier one, and then those up to it
pub split-versions : (key : List ℕ) (m t : ℕ) (vs : List RowVersion) → m ≤ t → IsTrue (is_ordered vs) → up_to_ts key t vs ≡ between_of key m t vs ++ up_to_ts key m vs
split-versions key m t [] h o = refl
split-versions key m t (v ∷ vs) h o = held_by key m t v vs (same_key v.key key) (nat_le v.ts m) (nat_le v.ts t) refl refl refl h (ordered-above v vs o) (split-versions key m t vs h (ordered-tail v vs o))

of_kept_by : (table : ℕ) (c : Change) (cs : List Change) (b : Bool) → c.table ≡ table → AreOf table cs → AreOf table (cond b (c ∷ cs) cs)
of_kept_by table c cs true e h = (e, h)
of_kept_by table c cs false e h = h

of_kept : (p : Change → Bool) (table : ℕ) (cs : List Change) → AreOf table cs → AreOf table (filter p cs)
of_kept p table [] h = tt
of_kept p table (c ∷ cs) h = of_kept_by table c (filter p cs) (p c) h.0 (of_kept p table cs h.1)

-- Where a key's versions up to a moment make its row then, and those above it are what its changes since are seen as, they make its row.
pub row-held : (cat : Catalogue) (table : ℕ) (source : List Change) (key : List ℕ) (m t : ℕ) (vs : List RowVersion) → m ≤ t → IsTrue (is_ordered vs) → IsTrue (is_in_time key source) → AreOf table (changes_to key source)
    → effect_of (up_to_ts key m vs) ≡ row_cells cat table (row_at source key m) → between_of key m t vs ≡ seen_back cat (between m t (changes_to key source))
    → effect_of (up_to_ts key t vs) ≡ row_cells cat table (row_at source key t)
row-held cat table source key m t vs h o r a e f =
    ap effect_of (split-versions key m t vs h o) ∙ effect-append (between_of key m t vs) (up_to_ts key m vs)
    ∙ ap (λ row. effect_onto row (between_of key m t vs)) e ∙ ap (effect_onto (row_cells cat table (row_at source key m))) f
    ∙ effect-back cat table (row_at source key m) (between m t (changes_to key source)) (of_kept (λ c. nat_lt m c.ts && nat_le c.ts t) table (changes_to key source) a)
    ∙ ap (row_cells cat table) (sym (row-between source key m t h r))

-- so what is read of the key at that moment is its row, in cells
pub asof-row : (cat : Catalogue) (table : ℕ) (source : List Change) (key : List ℕ) (m t : ℕ) (vs : List RowVersion) → m ≤ t → IsTrue (is_ordered vs) → IsTrue (is_in_time key source) → AreOf table (changes_to key source)
    → effect_of (up_to_ts key m vs) ≡ row_cells cat table (row_at source key m) → between_of key m t vs ≡ seen_back cat (between m t (changes_to key source))
    → option_map (λ (v : RowVersion). v.cells) (find (λ v. same_key v.key key) (asof t vs)) ≡ row_cells cat table (row_at source key t)
asof-row cat table source key m t vs h o r a e f = asof-effect t key vs o ∙ row-held cat table source key m t vs h o r a e f

-- ---- ordered lists with the same versions

held_first : (v : RowVersion) (vs : List RowVersion) → Contains (v ∷ vs) v
held_first v vs = Contains-append_left (v ∷ []) vs v (Contains-push [] v)

held_cases : (w : RowVersion) (vs : List RowVersion) (v : RowVersion) → Contains (w ∷ vs) v → (w ≡ v) ⊎ Contains vs v
held_cases w vs v h = elim (Contains-append_cases (w ∷ []) vs v h) [
  | inl a ↦ elim (Contains-push_cases [] w v a) [ inl n ↦ absurd (omega (arith, n.1)) | inr e ↦ inl e ]
  | inr b ↦ inr b
]

found_by_test : (q : RowVersion → Bool) (w : RowVersion) (vs : List RowVersion) (v : RowVersion) (b : Bool) → q w ≡ b → (find q vs ≡ Some v → Contains vs v × (q v ≡ true)) → cond b (Some w) (find q vs) ≡ Some v → Contains (w ∷ vs) v × (q v ≡ true)
found_by_test q w vs v true e h f = let g : w ≡ v = cc in subst (λ x. Contains (w ∷ vs) x × (q x ≡ true)) g (held_first w vs, e)
found_by_test q w vs v false e h f = let r = h f in (Contains-append_right (w ∷ []) vs v r.0, r.1)

-- what is found is held, and passes the test
pub found-held : (q : RowVersion → Bool) (vs : List RowVersion) (v : RowVersion) → find q vs ≡ Some v → Contains vs v × (q v ≡ true)
found-held q [] v h = cc
found-held q (w ∷ vs) v h = found_by_test q w vs v (q w) refl (found-held q vs v) h

above_held : (w : RowVersion) (vs : List RowVersion) (v : RowVersion) → Above w vs → Contains vs v → IsTrue (stands_before w v)
above_held w [] v a h = absurd (omega (arith, h.1))
above_held w (x ∷ vs) v a h = elim (held_cases x vs v h) [ inl e ↦ subst (λ y. IsTrue (stands_before w y)) e a.0 | inr i ↦ above_held w vs v a.1 i ]

key_itself : (k : List ℕ) → same_key k k ≡ true
key_itself k = ap is_eq (tied_itself nat_list_cmp_total k)

later_by : (w v : RowVersion) (o p : Option RowVersion) (b : Bool) → named v.key v.ts w ≡ b → IsTrue (stands_before w v) → o ≡ p → cond b (Some w) o ≡ p
later_by w v o p false e s h = h
later_by w v o p true e s h = let n = and_parts (same_key v.key w.key) (w.ts == v.ts) e in let t = eqb-true w.ts v.ts n.1 in
    let f = falls v.key w v (ap (λ k. same_key k v.key) (sym (same-key v.key w.key n.0)) ∙ key_itself v.key) (key_itself v.key) s in absurd (omega arith)

-- what an ordered list holds is found by its name
pub held-found : (vs : List RowVersion) (v : RowVersion) → IsTrue (is_ordered vs) → Contains vs v → find (named v.key v.ts) vs ≡ Some v
held-found [] v o h = absurd (omega (arith, h.1))
held-found (w ∷ vs) v o h = elim (held_cases w vs v h) [
  | inl e ↦ subst (λ x. find (named v.key v.ts) (x ∷ vs) ≡ Some v) (sym e) (ap (λ b. cond b (Some v) (find (named v.key v.ts) vs)) (and_from (same_key v.key v.key) (v.ts == v.ts) (key_itself v.key) (eq-eqb v.ts v.ts refl)))
  | inr i ↦ later_by w v (find (named v.key v.ts) vs) (Some v) (named v.key v.ts w) refl (above_held w vs v (ordered-above w vs o) i) (held-found vs v (ordered-tail w vs o) i)
]

pub found_too : (key : List ℕ) (t : ℕ) (vs ws : List RowVersion) (v : RowVersion) → IsTrue (is_ordered ws) → ((v : RowVersion) → Contains vs v → Contains ws v) → find (named key t) vs ≡ Some v → find (named key t) ws ≡ Some v
found_too key t vs ws v o f e = let r = found-held (named key t) vs v e in let n = and_parts (same_key key v.key) (v.ts == t) r.1 in
    ap (λ k. find (named k t) ws) (same-key key v.key n.0) ∙ ap (λ u. find (named v.key u) ws) (sym (eqb-true v.ts t n.1)) ∙ held-found ws v o (f v r.0)

same_by : (key : List ℕ) (t : ℕ) (vs ws : List RowVersion) (x y : Option RowVersion) → find (named key t) vs ≡ x → find (named key t) ws ≡ y → IsTrue (is_ordered vs) → IsTrue (is_ordered ws)
    → ((v : RowVersion) → Contains vs v → Contains ws v) → ((v : RowVersion) → Contains ws v → Contains vs v) → find (named key t) vs ≡ find (named key t) ws
same_by key t vs ws (Some v) y e h o p f g = e ∙ sym (found_too key t vs ws v p f e)
same_by key t vs ws None None e h o p f g = e ∙ sym h
same_by key t vs ws None (Some w) e h o p f g = found_too key t ws vs w o g h ∙ sym h

-- two ordered lists that hold the same versions are one list
pub same-held : (vs ws : List RowVersion) → IsTrue (is_ordered vs) → IsTrue (is_ordered ws) → ((v : RowVersion) → Contains vs v → Contains ws v) → ((v : RowVersion) → Contains ws v → Contains vs v) → vs ≡ ws
same-held vs ws o p f g = ordered-unique vs ws o p (λ key t. same_by key t vs ws (find (named key t) vs) (find (named key t) ws) refl refl o p f g)

-- ---- what is held of a key is what its changes are seen as

in_cases : {X : Type 0} → (w : X) (vs : List X) (v : X) → Contains (w ∷ vs) v → (w ≡ v) ⊎ Contains vs v
in_cases w vs v h = elim (Contains-append_cases (w ∷ []) vs v h) [
  | inl a ↦ elim (Contains-push_cases [] w v a) [ inl n ↦ absurd (omega (arith, n.1)) | inr e ↦ inl e ]
  | inr b ↦ inr b
]

in_filter_by : {X : Type 0} → (p : X → Bool) (w : X) (vs : List X) (v : X) (b : Bool) → p w ≡ b → (Contains (filter p vs) v → Contains vs v × (p v ≡ true)) → Contains (cond b (w ∷ filter p vs) (filter p vs)) v → Contains (w ∷ vs) v × (p v ≡ true)
in_filter_by p w vs v true e f h = elim (in_cases w (filter p vs) v h) [
  | inl g ↦ subst (λ x. Contains (w ∷ vs) x × (p x ≡ true)) g (Contains-append_left (w ∷ []) vs w (Contains-push [] w), e)
  | inr i ↦ (let r : Contains vs v × (p v ≡ true) = f i in (Contains-append_right (w ∷ []) vs v r.0, r.1))
]
in_filter_by p w vs v false e f h = let r = f h in (Contains-append_right (w ∷ []) vs v r.0, r.1)

pub from-filter : {X : Type 0} → (p : X → Bool) (vs : List X) (v : X) → Contains (filter p vs) v → Contains vs v × (p v ≡ true)
from-filter p [] v h = absurd (omega (arith, h.1))
from-filter p (w ∷ vs) v h = in_filter_by p w vs v (p w) refl (from-filter p vs v) h

filter_held : {X : Type 0} → (p : X → Bool) (w : X) (vs : List X) (v : X) (b : Bool) → p w ≡ b → p v ≡ true → (w ≡ v) ⊎ Contains (filter p vs) v → Contains (cond b (w ∷ filter p vs) (filter p vs)) v
filter_held p w vs v true e h (inl g) = subst (λ x. Contains (w ∷ filter p vs) x) g (Contains-append_left (w ∷ []) (filter p vs) w (Contains-push [] w))
filter_held p w vs v true e h (inr i) = Contains-append_right (w ∷ []) (filter p vs) v i
filter_held p w vs v false e h (inl g) = absurd (false≢true (sym e ∙ ap p g ∙ h))
filter_held p w vs v false e h (inr i) = i

pub in-filter : {X : Type 0} → (p : X → Bool) (vs : List X) (v : X) → Contains vs v → p v ≡ true → Contains (filter p vs) v
in-filter p [] v h e = absurd (omega (arith, h.1))
in-filter p (w ∷ vs) v h e = filter_held p w vs v (p w) refl e (elim (in_cases w vs v h) [ inl g ↦ inl g | inr i ↦ inr (in-filter p vs v i e) ])

pub seen-key : (cat : Catalogue) (c : Change) → (seen cat c).key ≡ change_key c
unfolding seen
seen-key cat c = refl

pub seen-ts : (cat : Catalogue) (c : Change) → (seen cat c).ts ≡ c.ts
unfolding seen
seen-ts cat c = refl

pub from-back : (cat : Catalogue) (cs : List Change) (v : RowVersion) → Contains (seen_back cat cs) v → (c : Change) × Contains cs c × (v ≡ seen cat c)
from-back cat [] v h = absurd (omega (arith, h.1))
from-back cat (c ∷ cs) v h = elim (Contains-push_cases (seen_back cat cs) (seen cat c) v h) [
  | inl a ↦ (let r : (d : Change) × Contains cs d × (v ≡ seen cat d) = from-back cat cs v a in (r.0, Contains-append_right (c ∷ []) cs r.0 r.1, r.2))
  | inr e ↦ (c, Contains-append_left (c ∷ []) cs c (Contains-push [] c), sym e)
]

pub in-back : (cat : Catalogue) (cs : List Change) (c : Change) → Contains cs c → Contains (seen_back cat cs) (seen cat c)
in-back cat [] c h = absurd (omega (arith, h.1))
in-back cat (d ∷ cs) c h = elim (in_cases d cs c h) [
  | inl e ↦ subst (λ x. Contains (seen_back cat cs ++ seen cat d ∷ []) (seen cat x)) e (Contains-push (seen_back cat cs) (seen cat d))
  | inr i ↦ Contains-append_left (seen_back cat cs) (seen cat d ∷ []) (seen cat c) (in-back cat cs c i)
]

abbrev Higher : List ℕ → ℕ → List RowVersion → Type 0
Higher key t vs = AllByRecursion (λ v. (v.key ≡ key) × (t < v.ts)) vs

abbrev pub KeysAre : List ℕ → List Change → Type 0
KeysAre key cs = AllByRecursion (λ c. change_key c ≡ key) cs

higher_push : (key : List ℕ) (low t : ℕ) (vs : List RowVersion) (w : RowVersion) → low < t → Higher key t vs → w.key ≡ key → low < w.ts → Higher key low (vs ++ w ∷ [])
higher_push key low t [] w l h e f = ((e, f), tt)
higher_push key low t (v ∷ vs) w l h e f = let b = h.0.1 in ((h.0.0, omega arith), higher_push key low t vs w l h.1 e f)

higher_back : (cat : Catalogue) (key : List ℕ) (low : ℕ) (cs : List Change) → KeysAre key cs → IsTrue (rises_above low (map (λ c. c.ts) cs)) → Higher key low (seen_back cat cs)
higher_back cat key low [] k r = tt
higher_back cat key low (c ∷ cs) k r = let p = and_parts (nat_lt low c.ts) (rises_above c.ts (map (λ c. c.ts) cs)) r in let l = ltb-true low c.ts p.0 in
    higher_push key low c.ts (seen_back cat cs) (seen cat c) l (higher_back cat key c.ts cs k.1 p.1) (seen-key cat c ∙ k.0) (omega (arith, l, seen-ts cat c))

above_push : (v w : RowVersion) (vs : List RowVersion) → Above v vs → IsTrue (stands_before v w) → Above v (vs ++ w ∷ [])
above_push v w [] a s = (s, tt)
above_push v w (x ∷ vs) a s = (a.0, above_push v w vs a.1 s)

before_later : (key : List ℕ) (v w : RowVersion) → v.key ≡ key → w.key ≡ key → w.ts < v.ts → IsTrue (stands_before v w)
before_later key v w e f l = or_right (below v.key w.key) (same_key v.key w.key && nat_lt w.ts v.ts)
    (and_from (same_key v.key w.key) (nat_lt w.ts v.ts) (ap (same_key v.key) (f ∙ sym e) ∙ key_itself v.key) (lt-ltb w.ts v.ts l))

ordered_push : (key : List ℕ) (vs : List RowVersion) (w : RowVersion) → IsTrue (is_ordered vs) → Higher key w.ts vs → w.key ≡ key → IsTrue (is_ordered (vs ++ w ∷ []))
ordered_push key [] w o h e = refl
ordered_push key (v ∷ vs) w o h e = ordered-cons v (vs ++ w ∷ []) (above_push v w vs (ordered-above v vs o) (before_later key v w h.0.0 e h.0.1)) (ordered_push key vs w (ordered-tail v vs o) h.1 e)

ordered_back : (cat : Catalogue) (key : List ℕ) (low : ℕ) (cs : List Change) → KeysAre key cs → IsTrue (rises_above low (map (λ c. c.ts) cs)) → IsTrue (is_ordered (seen_back cat cs))
ordered_back cat key low [] k r = refl
ordered_back cat key low (c ∷ cs) k r = let p = and_parts (nat_lt low c.ts) (rises_above c.ts (map (λ c. c.ts) cs)) r in
    ordered_push key (seen_back cat cs) (seen cat c) (ordered_back cat key c.ts cs k.1 p.1) (subst (λ t. Higher key t (seen_back cat cs)) (sym (seen-ts cat c)) (higher_back cat key c.ts cs k.1 p.1)) (seen-key cat c ∙ k.0)

rises_lower : (low high : ℕ) → low ≤ high → (cs : List Change) → IsTrue (rises_above high (map (λ c. c.ts) cs)) → IsTrue (rises_above low (map (λ c. c.ts) cs))
rises_lower low high l [] h = refl
rises_lower low high l (c ∷ cs) h = let p = and_parts (nat_lt high c.ts) (rises_above c.ts (map (λ c. c.ts) cs)) h in let k = ltb-true high c.ts p.0 in
    and_from (nat_lt low c.ts) (rises_above c.ts (map (λ c. c.ts) cs)) (lt-ltb low c.ts (omega arith)) p.1

rises_by : (low : ℕ) (c : Change) (cs : List Change) (b : Bool) → IsTrue (nat_lt low c.ts) → IsTrue (rises_above c.ts (map (λ c. c.ts) cs)) → IsTrue (rises_above low (map (λ c. c.ts) (cond b (c ∷ cs) cs)))
rises_by low c cs true l h = and_from (nat_lt low c.ts) (rises_above c.ts (map (λ c. c.ts) cs)) l h
rises_by low c cs false l h = let k = ltb-true low c.ts l in rises_lower low c.ts (omega arith) cs h

rises_kept : (p : Change → Bool) (low : ℕ) (cs : List Change) → IsTrue (rises_above low (map (λ c. c.ts) cs)) → IsTrue (rises_above low (map (λ c. c.ts) (filter p cs)))
rises_kept p low [] h = refl
rises_kept p low (c ∷ cs) h = let q = and_parts (nat_lt low c.ts) (rises_above c.ts (map (λ c. c.ts) cs)) h in rises_by low c (filter p cs) (p c) q.0 (rises_kept p c.ts cs q.1)

keys_by : (key : List ℕ) (c : Change) (cs : List Change) (b : Bool) → (b ≡ true → change_key c ≡ key) → KeysAre key cs → KeysAre key (cond b (c ∷ cs) cs)
keys_by key c cs true e h = (e refl, h)
keys_by key c cs false e h = h

pub keys_to : (key : List ℕ) (source : List Change) → KeysAre key (changes_to key source)
keys_to key [] = tt
keys_to key (c ∷ cs) = keys_by key c (changes_to key cs) (same_key (change_key c) key) (same-key (change_key c) key) (keys_to key cs)

keys_kept : (p : Change → Bool) (key : List ℕ) (cs : List Change) → KeysAre key cs → KeysAre key (filter p cs)
keys_kept p key [] h = tt
keys_kept p key (c ∷ cs) h = keys_by key c (filter p cs) (p c) (λ e. h.0) (keys_kept p key cs h.1)

ordered_by : (cat : Catalogue) (key : List ℕ) (c : Change) (cs : List Change) (b : Bool) → change_key c ≡ key → KeysAre key cs → IsTrue (rises_above c.ts (map (λ c. c.ts) cs)) → IsTrue (is_ordered (seen_back cat (cond b (c ∷ cs) cs)))
ordered_by cat key c cs true e k r = ordered_push key (seen_back cat cs) (seen cat c) (ordered_back cat key c.ts cs k r) (subst (λ t. Higher key t (seen_back cat cs)) (sym (seen-ts cat c)) (higher_back cat key c.ts cs k r)) (seen-key cat c ∙ e)
ordered_by cat key c cs false e k r = ordered_back cat key c.ts cs k r

ordered_some : (cat : Catalogue) (p : Change → Bool) (key : List ℕ) (cs : List Change) → KeysAre key cs → IsTrue (rises_strictly (map (λ c. c.ts) cs)) → IsTrue (is_ordered (seen_back cat (filter p cs)))
ordered_some cat p key [] k r = refl
ordered_some cat p key (c ∷ cs) k r = ordered_by cat key c (filter p cs) (p c) k.0 (keys_kept p key cs k.1) (rises_kept p c.ts cs r)

-- each of a key's versions between two moments is what a change is seen as
abbrev pub OnlyChanges : Catalogue → List Change → List ℕ → ℕ → ℕ → List RowVersion → Type 0
OnlyChanges cat source key m t vs = (v : RowVersion) → Contains vs v → v.key ≡ key → m < v.ts → v.ts ≤ t → (c : Change) × Contains source c × (v ≡ seen cat c)

-- each of its changes between them is held as it is seen
abbrev pub AllChanges : Catalogue → List Change → List ℕ → ℕ → ℕ → List RowVersion → Type 0
AllChanges cat source key m t vs = (c : Change) → Contains source c → change_key c ≡ key → m < c.ts → c.ts ≤ t → Contains vs (seen cat c)

held_is_back : (cat : Catalogue) (source : List Change) (key : List ℕ) (m t : ℕ) (vs : List RowVersion) → OnlyChanges cat source key m t vs → (v : RowVersion) → Contains (between_of key m t vs) v → Contains (seen_back cat (between m t (changes_to key source))) v
held_is_back cat source key m t vs only v h =
    let f = from-filter (λ (v : RowVersion). same_key v.key key && (nat_lt m v.ts && nat_le v.ts t)) vs v h in
    let p = and_parts (same_key v.key key) (nat_lt m v.ts && nat_le v.ts t) f.1 in let q = and_parts (nat_lt m v.ts) (nat_le v.ts t) p.1 in
    let r : (c : Change) × Contains source c × (v ≡ seen cat c) = only v f.0 (same-key v.key key p.0) (ltb-true m v.ts q.0) (leb-true v.ts t q.1) in
    let k : same_key (change_key r.0) key ≡ true = ap (λ k. same_key k key) (sym (seen-key cat r.0) ∙ ap (λ (w : RowVersion). w.key) (sym r.2)) ∙ p.0 in
    let u : r.0.ts ≡ v.ts = sym (seen-ts cat r.0) ∙ ap (λ (w : RowVersion). w.ts) (sym r.2) in
    let w : (nat_lt m r.0.ts && nat_le r.0.ts t) ≡ true = ap (λ x. nat_lt m x && nat_le x t) u ∙ p.1 in
    subst (λ x. Contains (seen_back cat (between m t (changes_to key source))) x) (sym r.2) (in-back cat (between m t (changes_to key source)) r.0
    (in-filter (λ (c : Change). nat_lt m c.ts && nat_le c.ts t) (changes_to key source) r.0 (in-filter (λ (c : Change). same_key (change_key c) key) source r.0 r.1 k) w))

back_is_held : (cat : Catalogue) (source : List Change) (key : List ℕ) (m t : ℕ) (vs : List RowVersion) → AllChanges cat source key m t vs → (v : RowVersion) → Contains (seen_back cat (between m t (changes_to key source))) v → Contains (between_of key m t vs) v
back_is_held cat source key m t vs all v h =
    let r : (c : Change) × Contains (between m t (changes_to key source)) c × (v ≡ seen cat c) = from-back cat (between m t (changes_to key source)) v h in
    let f = from-filter (λ (c : Change). nat_lt m c.ts && nat_le c.ts t) (changes_to key source) r.0 r.1 in
    let g = from-filter (λ (c : Change). same_key (change_key c) key) source r.0 f.0 in
    let q = and_parts (nat_lt m r.0.ts) (nat_le r.0.ts t) f.1 in
    let k : same_key (seen cat r.0).key key ≡ true = ap (λ k. same_key k key) (seen-key cat r.0) ∙ g.1 in
    let w : (nat_lt m (seen cat r.0).ts && nat_le (seen cat r.0).ts t) ≡ true = ap (λ x. nat_lt m x && nat_le x t) (seen-ts cat r.0) ∙ f.1 in
    subst (λ x. Contains (between_of key m t vs) x) (sym r.2) (in-filter (λ (v : RowVersion). same_key v.key key && (nat_lt m v.ts && nat_le v.ts t)) vs (seen cat r.0)
    (all r.0 g.0 (same-key (change_key r.0) key g.1) (ltb-true m r.0.ts q.0) (leb-true r.0.ts t q.1)) (and_from (same_key (seen cat r.0).key key) _ k w))

pub between-seen : (cat : Catalogue) (source : List Change) (key : List ℕ) (m t : ℕ) (vs : List RowVersion) → IsTrue (is_ordered vs) → IsTrue (is_in_time key source) → OnlyChanges cat source key m t vs → AllChanges cat source key m t vs
    → between_of key m t vs ≡ seen_back cat (between m t (changes_to key source))
between-seen cat source key m t vs o r only all = same-held (between_of key m t vs) (seen_back cat (between m t (changes_to key source)))
    (filter-ordered (λ v. same_key v.key key && (nat_lt m v.ts && nat_le v.ts t)) vs o)
    (ordered_some cat (λ c. nat_lt m c.ts && nat_le c.ts t) key (changes_to key source) (keys_to key source) r)
    (held_is_back cat source key m t vs only) (back_is_held cat source key m t vs all)

-- What is read of a key at a moment is its row then, in cells: where what is held makes its row at an earlier moment, and from there on holds
-- its changes and nothing else.
pub key-reads : (cat : Catalogue) (table : ℕ) (source : List Change) (key : List ℕ) (m t : ℕ) (vs : List RowVersion) → m ≤ t → IsTrue (is_ordered vs) → IsTrue (is_in_time key source) → AreOf table (changes_to key source)
    → effect_of (up_to_ts key m vs) ≡ row_cells cat table (row_at source key m) → OnlyChanges cat source key m t vs → AllChanges cat source key m t vs
    → option_map (λ (v : RowVersion). v.cells) (find (λ v. same_key v.key key) (asof t vs)) ≡ row_cells cat table (row_at source key t)
key-reads cat table source key m t vs h o r a e only all = asof-row cat table source key m t vs h o r a e (between-seen cat source key m t vs o r only all)
