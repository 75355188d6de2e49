-- A table that grew by a version, or of which one was retired: what its carriers keep, and that cells go over to the new carriers.
use Rattle.std.proofs.Common.{Bool, List, [], ap, ap₂, arith, cond, eq-eqb, eqb-true, false, leb-true, refl, subst, sym, true, zero, ℕ, ◌∙◌, ◌∷◌, ◌≡◌}
use Rattle.std.specs.Prelude.{Contains, IsTrue, None, Option, Some, find, flat_map, is_some, map, nat_le, nat_lt, not, option_and_then, option_map, ◌&&◌, ◌==◌, ◌||◌}
use Rattle.std.specs.List.{AllByRecursion, list_all, list_any}
use Rattle.std.proofs.lemmas.Bool.{and_from, and_parts, false≢true}
use Rattle.std.specs.Option.{option_map_or}
use Rattle.lt_terms.specs.Kind.{FieldKinds, Kind, enumeration, field_kind, nesting, no_kinds, plain, rank_number, structured}
use Rattle.lt_terms.specs.Layout.{Cell, Leaf, bool_cell, cell_to, coerce, flatten, is_unset, lacking, layout_of, leaf_cell, null_cell, same_leaf, sets, setting, unset}
use Rattle.lt_terms.specs.Value.{Value, is_number, rises_above}
use Rattle.lt_terms.specs.Conversion.{conv}
use Rattle.lt_terms.specs.Log.{bit}
use Rattle.lt_tables.specs.Schema.{Catalogue, Column, Registered, Table, carrier, carrier_layout, carriers, carriers_of, column_live, column_numbered, column_numbers, has_column, joined_all, kinds_given, table_numbered}
use Rattle.lt_storage.specs.Store.{IsLayout, are_store_kinds, is_store_kind, leaf_covered}
use Rattle.lt_machine.specs.Laws.{lies_within}
use Rattle.lt_codecs.proofs.ListFacts.{all_map}
use Rattle.lt_lemmas.proofs.ConversionLemmas.{are_rising, is_rising}
use Rattle.lt_lemmas.proofs.TableLaws.{IsFineTable}
use Rattle.lt_lemmas.proofs.ListFacts.{find_held, mapped_some}
use Rattle.lt_laws.proofs.ReadLaws.{all_tests, are_fine, filter_found, has_number, kind_found, live_numbers, numbers_found}
use Rattle.lt_laws.proofs.LeafLaws.{AreColumns, IsMarked, Mark, all_marked, found_leaf, leaf_at, leaf_found, leaf_in, leaf_in_layout, leaf_is, leaf_of, mark_of}
use Rattle.lt_laws.proofs.ListFacts.{all_at, any_held, flat_held, from_filter_map, in_map}
use Rattle.lt_laws.proofs.ScanLaws.{any_of}
use Rattle.lt_laws.proofs.ScanLemmas.{IsWithin, at_carrier, found-carrier, from-filter, kind_for, leaf_cell-set, setting-map}
use Rattle.lt_laws.proofs.WidenLaws.{LeavesUp, cell_lacks, cell_widens}
use Rattle.lt_laws.proofs.CoerceLaws.{Cells, IsWideFor, beside, cell_for, found_beside, map_same, sets_at, unset_to, with_own}

-- ---- the columns of a table's carriers

-- a table's live columns, with their carriers
abbrev pub cols : Table → List (ℕ × Kind)
cols t = carriers_of t (live_numbers t)

all_rising : (cs : List (ℕ × Kind)) → IsTrue (list_all (λ c. is_rising c.1 && nat_le (nesting c.1) 4) cs) → AllByRecursion (λ c. IsTrue (is_rising c.1)) cs
all_rising [] h = tt
all_rising (c ∷ cs) h = let p = and_parts (is_rising c.1 && nat_le (nesting c.1) 4) (list_all (λ c. is_rising c.1 && nat_le (nesting c.1) 4) cs) h in
    ((and_parts (is_rising c.1) (nat_le (nesting c.1) 4) p.0).0, all_rising cs p.1)

pub are_columns : (t : Table) → IsFineTable t → AreColumns (cols t)
are_columns t f = let a = are_fine t f in record { rise = a.0; kinds = all_rising (cols t) a.1 }

mutual
  store_rises : (k : Kind) → IsTrue (is_store_kind k) → IsTrue (is_rising k)
  store_rises (plain r) h = refl
  store_rises (enumeration names) h = refl
  store_rises (structured ks) h = stores_rise ks 0 h

  stores_rise : (ks : FieldKinds) (low : ℕ) → IsTrue (are_store_kinds low ks) → IsTrue (are_rising low ks)
  stores_rise no_kinds low h = refl
  stores_rise (field_kind n name k ks) low h =
      let u = and_parts (is_number n && nat_lt low n && is_store_kind k) (are_store_kinds n ks) h in
      let w = and_parts (is_number n && nat_lt low n) (is_store_kind k) u.0 in
      and_from _ _ (and_from _ _ (and_parts (is_number n) (nat_lt low n) w.0).1 (store_rises k w.1)) (stores_rise ks n u.1)

pub layout_columns : (ls : List Leaf) (l : IsLayout ls) → AreColumns l.0
layout_columns ls l =
    let test : ℕ × Kind → Bool = λ c. is_number c.0 && is_store_kind c.1 && nat_le (nesting c.1) 4 in
    let p = and_parts (rises_above 0 (map (λ c. c.0) l.0)) (list_all test l.0) l.2 in
    record { rise = p.0; kinds = all_map (λ c. IsTrue (test c)) (λ c. IsTrue (is_rising c.1)) l.0 (λ c h. store_rises c.1 (and_parts (is_number c.0) (is_store_kind c.1) (and_parts (is_number c.0 && is_store_kind c.1) (nat_le (nesting c.1) 4) h).0).1) (all_tests test l.0 p.1) }

pub has_some : (ks : List Kind) (c : Kind) → joined_all ks ≡ Some c → (k : Kind) × Contains ks k
has_some [] c e = cc
has_some (k ∷ ks) c e = (k, (zero, omega arith, refl))

given_has : (t : Table) (n : ℕ) (k : Kind) → Contains (kinds_given t.versions n) k → IsTrue (list_any (has_column n) t.versions) × (has_number n (column_numbers t) ≡ true)
given_has t n k h =
    let r = from_filter_map (λ r. option_map (λ c. c.kind) (column_numbered r.columns n)) t.versions k h in
    let c = mapped_some (λ (c : Column). c.kind) (column_numbered r.0.columns n) k r.2 in
    let f = find_held (λ (c : Column). c.number == n) r.0.columns c.0 c.1 in
    let e : c.0.number ≡ n = eqb-true c.0.number n f.1 in (
      any_of (has_column n) t.versions r.0 r.1 (ap is_some c.1),
      ap (λ (i : ℕ). has_number i (column_numbers t)) (sym e) ∙ numbers_found c.0 (flat_map (λ r. r.columns) t.versions) [] (flat_held (λ (r : Registered). r.columns) t.versions r.0 c.0 r.1 f.0),
    )

-- a column with a carrier is one of some version
pub carrier_has : (t : Table) (n : ℕ) (k : Kind) → carrier t n ≡ Some k → IsTrue (list_any (has_column n) t.versions) × (has_number n (column_numbers t) ≡ true)
unfolding carrier
carrier_has t n k e = let g = has_some (kinds_given t.versions n) k e in given_has t n g.0 g.1

-- a live column stands among them with its carrier, and only such do
pub live_kind : (t : Table) (n : ℕ) (k : Kind) → column_live t n ≡ true → carrier t n ≡ Some k → kind_for (cols t) n ≡ Some (n, k)
live_kind t n k l e = kind_found t n (live_numbers t) k e (filter_found (column_live t) n (column_numbers t) l (carrier_has t n k e).1)

kind_live : (t : Table) (n : ℕ) (x : ℕ × Kind) → kind_for (cols t) n ≡ Some x → column_live t n ≡ true
kind_live t n x e =
    let f = find_held (λ (c : ℕ × Kind). c.0 == n) (cols t) x e in
    let m = from_filter_map (λ n. option_map (λ k. (n, k)) (carrier t n)) (live_numbers t) x f.0 in
    let k = mapped_some (λ (k : Kind). let p : ℕ × Kind = (m.0, k) in p) (carrier t m.0) x m.2 in
    let d : m.0 ≡ n = ap (λ (c : ℕ × Kind). c.0) k.2 ∙ eqb-true x.0 n f.1 in
    ap (column_live t) (sym d) ∙ (from-filter (column_live t) (column_numbers t) m.0 m.1).1

-- a leaf of the carriers: its column is live, and its column's carrier has it
pub record LeafOf (t : Table) (b : Leaf) : Type 0 where
  pub live : column_live t b.column ≡ true
  pub kind : Kind
  pub carried : carrier t b.column ≡ Some kind
  pub mark : leaf_of kind b.path ≡ Some (b.rank, b.presence)

pub kind_of_leaf : (t : Table) (n : ℕ) (path : List ℕ) (m : Mark) (o : Option (ℕ × Kind)) → kind_for (cols t) n ≡ o → option_and_then (λ c. leaf_of c.1 path) o ≡ Some m → (x : ℕ × Kind) × (kind_for (cols t) n ≡ Some x) × (leaf_of x.1 path ≡ Some m)
kind_of_leaf t n path m None e h = cc
kind_of_leaf t n path m (Some x) e h = (x, e, h)

pub leaf_in_cols : (t : Table) (b : Leaf) → leaf_in (cols t) b.column b.path ≡ Some (b.rank, b.presence) → LeafOf t b
leaf_in_cols t b e =
    let k = kind_of_leaf t b.column b.path (b.rank, b.presence) (kind_for (cols t) b.column) refl e in
    record { live = kind_live t b.column k.0 k.1; kind = k.0.1; carried = found-carrier t b.column (live_numbers t) k.0 k.1; mark = k.2 }

pub in_cols : (t : Table) (n : ℕ) (k : Kind) (path : List ℕ) → column_live t n ≡ true → carrier t n ≡ Some k → leaf_in (cols t) n path ≡ leaf_of k path
in_cols t n k path l e = ap (option_and_then (λ c. leaf_of c.1 path)) (live_kind t n k l e)

-- ---- a table that grew

pub record Widens (t u : Table) : Type 0 where
  pub number : u.number ≡ t.number
  pub key : u.key ≡ t.key
  -- a column of the older table is live only where it was
  pub live : (n : ℕ) → IsTrue (list_any (has_column n) t.versions) → column_live u n ≡ true → column_live t n ≡ true
  pub stays : (n : ℕ) → IsTrue (list_any (has_column n) t.versions) → IsTrue (list_any (has_column n) u.versions)
  -- and its carrier keeps its leaves
  pub carrier : (n : ℕ) (k : Kind) → carrier t n ≡ Some k → (w : Kind) × (carrier u n ≡ Some w) × LeavesUp k w

-- ---- cells go over to the new carriers

-- a setting of a fair change: within its column's carrier, which there is
abbrev pub IsSetIn : Table → ℕ × Value → Type 0
IsSetIn t s = IsWithin t s × ((k : Kind) × (carrier t s.0 ≡ Some k))

abbrev pub set_at : Table → List (ℕ × Value) → List (ℕ × Value)
set_at t set = map (λ s. (s.0, at_carrier t s.0 s.1)) set

abbrev pub cell_in : List (ℕ × Value) → Leaf → Cell
cell_in set l = option_map_or (leaf_cell l) (setting l.column set) unset

abbrev pub HasSetting : (ℕ × Value → Type 0) → ℕ → Value → Type 0
HasSetting P n v = (s : ℕ × Value) × P s × (s.0 ≡ n) × (s.1 ≡ v)

setting_by : (P : ℕ × Value → Type 0) (n : ℕ) (v : Value) (s : ℕ × Value) (o : Option Value) (b : Bool) → (n == s.0) ≡ b → P s → cond b (Some s.1) o ≡ Some v → (o ≡ Some v → HasSetting P n v) → HasSetting P n v
setting_by P n v s o true d p e f = (s, p, sym (eqb-true n s.0 d), cc)
setting_by P n v s o false d p e f = f e

pub setting_held : (P : ℕ × Value → Type 0) (n : ℕ) (v : Value) (set : List (ℕ × Value)) → AllByRecursion P set → setting n set ≡ Some v → HasSetting P n v
setting_held P n v [] a e = cc
setting_held P n v (s ∷ set) a e = setting_by P n v s (setting n set) (n == s.0) refl a.0 e (setting_held P n v set a.1)

pub cell_none : (set : List (ℕ × Value)) (n : ℕ) (l : Leaf) → setting n set ≡ None → l.column ≡ n → cell_in set l ≡ unset
cell_none set n l e k = ap (λ (o : Option Value). option_map_or (leaf_cell l) o unset) (ap (λ (i : ℕ). setting i set) k ∙ e)

none_set_by : (n : ℕ) (l : Leaf) (c : Cell) (r b : Bool) → (l.column == n) ≡ b → (b ≡ true → c ≡ unset) → r ≡ false → ((b && not (is_unset c)) || r) ≡ false
none_set_by n l c r true e f h = ap (λ (x : Cell). not (is_unset x) || r) (f refl) ∙ h
none_set_by n l c r false e f h = h

pub none_set : (set : List (ℕ × Value)) (n : ℕ) (ls : List Leaf) → setting n set ≡ None → sets n (beside (cell_in set) ls) ≡ false
none_set set n [] e = refl
none_set set n (l ∷ ls) e = none_set_by n l (cell_in set l) (sets n (beside (cell_in set) ls)) (l.column == n) refl (λ k. cell_none set n l e (eqb-true l.column n k)) (none_set set n ls e)

pub unset_by : (set : List (ℕ × Value)) (ls : List Leaf) (b : Leaf) (o : Option Leaf) → find (λ l. same_leaf l b) ls ≡ o → setting b.column set ≡ None
    → option_map_or (λ (c : Leaf × Cell). cell_to c.0.rank b.rank c.1) (option_map (λ l. (l, cell_in set l)) o) (lacking b (beside (cell_in set) ls)) ≡ unset
unset_by set ls b (Some a) f e = ap (cell_to a.rank b.rank) (cell_none set b.column a e (leaf_is a b (find_held (λ l. same_leaf l b) ls a f).1).0) ∙ unset_to a.rank b.rank
unset_by set ls b None f e = ap (λ (t : Bool). cond t (cond b.presence (bool_cell false) null_cell) unset) (none_set set b.column ls e)

unset_goes : (set : List (ℕ × Value)) (ls : List Leaf) (b : Leaf) → setting b.column set ≡ None → cell_for (beside (cell_in set) ls) b ≡ unset
unset_goes set ls b e = ap (λ (o : Option (Leaf × Cell)). option_map_or (λ (c : Leaf × Cell). cell_to c.0.rank b.rank c.1) o (lacking b (beside (cell_in set) ls))) (found_beside (cell_in set) b ls)
    ∙ unset_by set ls b (find (λ l. same_leaf l b) ls) refl e

-- a column that is set has a set cell where the carriers have it
column_is_set : (t : Table) (set : List (ℕ × Value)) (n : ℕ) (k : Kind) (w : Value) → column_live t n ≡ true → carrier t n ≡ Some k → setting n set ≡ Some w → sets n (beside (cell_in set) (layout_of (cols t))) ≡ true
column_is_set t set n k w live e s =
    let l = leaf_at n [] (mark_of k) in
    let i : Contains (layout_of (cols t)) l = leaf_in_layout (cols t) n [] (mark_of k) (in_cols t n k [] live e) in
    any_of (sets_at n) (beside (cell_in set) (layout_of (cols t))) (l, cell_in set l) (in_map (λ l. (l, cell_in set l)) (layout_of (cols t)) l i)
    (and_from _ _ (eq-eqb n n refl) (ap not (ap (λ (o : Option Value). is_unset (option_map_or (leaf_cell l) o unset)) s ∙ leaf_cell-set l w)))

set_by : (t : Table) (set : List (ℕ × Value)) (b : Leaf) (k wide : Kind) (v : Value) (o : Option Leaf) → IsFineTable t → find (λ l. same_leaf l b) (layout_of (cols t)) ≡ o → column_live t b.column ≡ true → carrier t b.column ≡ Some k → LeavesUp k wide
    → IsTrue (lies_within v k) → leaf_of wide b.path ≡ Some (b.rank, b.presence) → setting b.column set ≡ Some (conv v k)
    → option_map_or (λ (c : Leaf × Cell). cell_to c.0.rank b.rank c.1) (option_map (λ l. (l, cell_in set l)) o) (lacking b (beside (cell_in set) (layout_of (cols t)))) ≡ leaf_cell b (conv v wide)
set_by t set b k wide v (Some a) fine f live e up h eb s =
    let p = leaf_is a b (find_held (λ l. same_leaf l b) (layout_of (cols t)) a f).1 in
    let ea : leaf_of k b.path ≡ Some (a.rank, a.presence) = sym (in_cols t b.column k b.path live e) ∙ found_leaf (cols t) b a (are_columns t fine) f in
    ap (cell_to a.rank b.rank) (ap (λ (i : ℕ). option_map_or (leaf_cell a) (setting i set) unset) p.0 ∙ ap (λ (x : Option Value). option_map_or (leaf_cell a) x unset) s) ∙ cell_widens k wide v b a up h eb ea p.1
set_by t set b k wide v None fine f live e up h eb s =
    let none : leaf_of k b.path ≡ None = no_leaf (leaf_of k b.path) refl in
    ap (λ (x : Bool). cond x (cond b.presence (bool_cell false) null_cell) unset) (column_is_set t set b.column k (conv v k) live e s) ∙ cell_lacks k wide v b h eb none
  where
    no_leaf : (o : Option Mark) → leaf_of k b.path ≡ o → leaf_of k b.path ≡ None
    no_leaf None d = d
    no_leaf (Some m) d = let g = leaf_found (cols t) b m (are_columns t fine) (in_cols t b.column k b.path live e ∙ d) in let x : None ≡ Some g.0 = sym f ∙ g.1 in cc

set_goes : (t u : Table) (set : List (ℕ × Value)) (b : Leaf) (v : Value) → IsFineTable t → Widens t u → AllByRecursion (IsSetIn t) set → LeafOf u b → setting b.column set ≡ Some v
    → cell_for (beside (cell_in (set_at t set)) (layout_of (cols t))) b ≡ leaf_cell b (at_carrier u b.column v)
set_goes t u set b v fine w a l s =
    let n = b.column in
    let h = setting_held (IsSetIn t) n v set a s in
    let k = h.1.1.0 in
    let ek : carrier t n ≡ Some k = ap (carrier t) (sym h.2) ∙ h.1.1.1 in
    let live : column_live t n ≡ true = w.live n (carrier_has t n k ek).0 l.live in
    let up = w.carrier n k ek in
    let d : Some up.0 ≡ Some l.kind = sym up.1 ∙ l.carried in
    let same_kind : up.0 ≡ l.kind = cc in
    let lies : IsTrue (lies_within v k) = subst (λ (x : Value). IsTrue (lies_within x k)) h.3 (h.1.0.within k h.1.1.1) in
    let was : setting n (set_at t set) ≡ Some (conv v k) = setting-map (at_carrier t) n set ∙ ap (option_map (at_carrier t n)) s ∙ ap (λ (o : Option Kind). Some (option_map_or (conv v) o v)) ek in
    ap (λ (o : Option (Leaf × Cell)). option_map_or (λ (c : Leaf × Cell). cell_to c.0.rank b.rank c.1) o (lacking b (beside (cell_in (set_at t set)) (layout_of (cols t))))) (found_beside (cell_in (set_at t set)) b (layout_of (cols t)))
    ∙ set_by t (set_at t set) b k l.kind v (find (λ l. same_leaf l b) (layout_of (cols t))) fine refl live ek (subst (LeavesUp k) same_kind up.2) lies l.mark was
    ∙ ap (λ (o : Option Kind). leaf_cell b (option_map_or (conv v) o v)) (sym l.carried)

goes_by : (t u : Table) (set : List (ℕ × Value)) (b : Leaf) (o : Option Value) → setting b.column set ≡ o → IsFineTable t → Widens t u → AllByRecursion (IsSetIn t) set → LeafOf u b → cell_for (beside (cell_in (set_at t set)) (layout_of (cols t))) b ≡ cell_in (set_at u set) b
goes_by t u set b None e fine w a l = unset_goes (set_at t set) (layout_of (cols t)) b (setting-map (at_carrier t) b.column set ∙ ap (option_map (at_carrier t b.column)) e)
    ∙ sym (ap (λ (o : Option Value). option_map_or (leaf_cell b) o unset) (setting-map (at_carrier u) b.column set ∙ ap (option_map (at_carrier u b.column)) e))
goes_by t u set b (Some v) e fine w a l = set_goes t u set b v fine w a l e
    ∙ sym (ap (λ (o : Option Value). option_map_or (leaf_cell b) o unset) (setting-map (at_carrier u) b.column set ∙ ap (option_map (at_carrier u b.column)) e))

-- what was set goes over: its cells under the older carriers are, under the newer, the cells that it has there
pub set_widens : (t u : Table) (set : List (ℕ × Value)) → IsFineTable t → IsFineTable u → Widens t u → AllByRecursion (IsSetIn t) set
    → coerce (layout_of (cols t)) (layout_of (cols u)) (flatten (layout_of (cols t)) (map (λ s. (s.0, at_carrier t s.0 s.1)) set)) ≡ flatten (layout_of (cols u)) (map (λ s. (s.0, at_carrier u s.0 s.1)) set)
unfolding coerce
set_widens t u set ft fu w a = ap (λ (xs : Cells). map (cell_for xs) (layout_of (cols u))) (with_own (cell_in (set_at t set)) (layout_of (cols t)))
    ∙ map_same (cell_for (beside (cell_in (set_at t set)) (layout_of (cols t)))) (cell_in (set_at u set)) (IsMarked (cols u)) (layout_of (cols u)) (λ b m. goes_by t u set b (setting b.column set) refl ft w a (leaf_in_cols u b m)) (all_marked (cols u) (are_columns u fu))

-- ---- what a covered layout's cells are

pub only_right : (a b : Bool) → a ≡ true → (not a || b) ≡ true → b ≡ true
only_right true b h i = i
only_right false b h i = absurd (false≢true h)

same_bits : (a b : Bool) → bit a ≡ bit b → a ≡ b
same_bits true true e = refl
same_bits true false e = absurd (omega (arith, e))
same_bits false true e = absurd (omega (arith, e))
same_bits false false e = refl

-- each leaf of a covered layout whose column stays live has its place in the carriers
pub covered_wide : (cat : Catalogue) (t : Table) (l : Leaf) → table_numbered cat t.number ≡ Some t → IsFineTable t → IsTrue (leaf_covered cat t.number l) → (IsTrue (list_any (has_column l.column) t.versions)) × (column_live t l.column ≡ true → IsWideFor (cols t) l)
unfolding carrier_layout
covered_wide cat t l e fine c =
    let has = list_any (has_column l.column) t.versions in
    let fits = λ (k : Leaf). same_leaf k l && (bit k.presence == bit l.presence) && nat_le (rank_number l.rank) (rank_number k.rank) in
    let d : (has && (not (column_live t l.column) || list_any fits (carriers cat t.number))) ≡ true
    = sym (ap (λ (o : Option Table). option_map_or (λ x. list_any (has_column l.column) x.versions && (not (column_live x l.column) || list_any fits (carriers cat t.number))) o false) e) ∙ c in
    let p = and_parts has (not (column_live t l.column) || list_any fits (carriers cat t.number)) d in (
      p.0,
      (λ live.
          let q : list_any fits (layout_of (cols t)) ≡ true = ap (λ (o : Option Table). list_any fits (option_map_or carrier_layout o [])) (sym e) ∙ only_right (column_live t l.column) (list_any fits (carriers cat t.number)) live p.1 in
          let k = any_held fits (layout_of (cols t)) q in
          let f = and_parts (same_leaf k.0 l && (bit k.0.presence == bit l.presence)) (nat_le (rank_number l.rank) (rank_number k.0.rank)) k.2 in
          let g = and_parts (same_leaf k.0 l) (bit k.0.presence == bit l.presence) f.0 in
          let s = leaf_is k.0 l g.0 in
          let m : leaf_in (cols t) k.0.column k.0.path ≡ Some (k.0.rank, k.0.presence) = all_at (IsMarked (cols t)) (layout_of (cols t)) k.0 (all_marked (cols t) (are_columns t fine)) k.1 in
          ((k.0.rank, k.0.presence), ap₂ (leaf_in (cols t)) (sym s.0) (sym s.1) ∙ m, leb-true (rank_number l.rank) (rank_number k.0.rank) f.1, same_bits k.0.presence l.presence (eqb-true (bit k.0.presence) (bit l.presence) g.1))),
    )
