-- A logged change is a lawful version, reads back, and is at the carriers what it is seen as.
use Rattle.std.proofs.Common.{Bool, List, [], suc, zero, ap, ap₂, append-nil, arith, cond, eq-eqb, eqb-true, ne_eqb, false, le-leb, length, ltb-true, ltb-false, refl, subst, sym, true, ℕ, ◌<◌, ◌≤◌, ◌∙◌, ◌∷◌, ◌≡◌}
use Rattle.std.specs.Prelude.{IsTrue, None, Option, Some, find, map, nat_le, nat_lt, not, option_and_then, option_map, slice_get, ◌&&◌, ◌==◌, ◌||◌}
use Rattle.std.specs.List.{AllByRecursion, list_all}
use Rattle.std.specs.Option.{option_map_or}
use Rattle.std.proofs.lemmas.Bool.{and_from, and_parts, false≢true}
use Rattle.lt_terms.specs.declared.KeyKind.{KeyKind}
use Rattle.lt_terms.specs.declared.Op.{Op}
use Rattle.lt_terms.specs.Value.{Value, is_timestamp, rises_above}
use Rattle.lt_terms.specs.Kind.{Kind, has_shape, nesting}
use Rattle.lt_terms.specs.Key.{KeyPart, is_key_of, key_bytes, max_key}
use Rattle.lt_machine.specs.Laws.{are_settings}
use Rattle.lt_terms.specs.Layout.{Cell, Leaf, are_lawful, coerce, flatten, is_unset, layout_of, setting, unflatten}
use Rattle.lt_terms.specs.Log.{Change, change_key, is_change}
use Rattle.lt_tables.specs.Fair.{has_change_shape}
use Rattle.lt_tables.specs.Pump.{is_deliverable}
use Rattle.lt_tables.specs.Schema.{Became, Catalogue, Column, IsCatalogue, KeyColumn, Registered, Table, carriers, key_kinds, registered, sets_shape, table_numbered, version_layout}
use Rattle.lt_tables.specs.Version.{RowVersion, as_logged, carried, coerced, is_delete, is_version, seen}
use Rattle.lt_codecs.proofs.KeyLaws.{keys_prefix_free}
use Rattle.lt_laws.proofs.CatalogueLaws.{became_lawful, became_stays}
use Rattle.lt_lemmas.proofs.ConversionLemmas.{is_rising}
use Rattle.lt_laws.proofs.FlattenLemmas.{flattens_back-columns}
use Rattle.lt_codecs.proofs.ListFacts.{all_map, all_to_map}
use Rattle.lt_laws.proofs.NewDelta.{tests_hold}
use Rattle.lt_laws.proofs.ReadLaws.{all_tests, set_shapes, shape_at}
use Rattle.lt_laws.proofs.SeenLaws.{laid_lawful, long_key, none_long, unset_all}
use Rattle.lt_laws.proofs.TableGrowth.{cell_in, cols, set_at}
use Rattle.lt_lemmas.proofs.TableLaws.{FineColumns, IsFineKind, fine_table}
use Rattle.lt_codecs.proofs.LogTests.{change_fits}
use Rattle.lt_laws.proofs.WidenedRows.{carried_as}
use Rattle.lt_laws.proofs.WidenedStore.{known_carriers}
use Rattle.lt_version_laws.specs.Logged.{LoggedLaws, logged, logged_layout, version_columns}
use Rattle.lt_version_laws.proofs.LoggedCells.{SetsColumn, columns_of, kind_of_column, logged_goes, logged_laid, seen_laid, sets_column, version_columns_are}
use Rattle.lt_terms.specs.declared.Op.TheVariants as ops

-- ---- the table and version of a change that may be delivered

pub record IsOfVersion (cat : Catalogue) (c : Change) : Type 0 where
  pub table : Table
  pub known : table_numbered cat c.table ≡ Some table
  pub version : Registered
  pub found : registered table c.version ≡ Some version
  pub shape : IsTrue (has_change_shape table version c)
  pub lawful : IsTrue (is_change c)
  pub ts : IsTrue (is_timestamp c.ts)
  pub key : IsTrue (nat_le (length (change_key c)) max_key)

of_version_by : (cat : Catalogue) (c : Change) (o : Option Table) → table_numbered cat c.table ≡ o → IsTrue (is_change c)
    → option_map_or (λ t. option_map_or (λ r. has_change_shape t r c) (registered t c.version) false) o false ≡ true → IsOfVersion cat c
of_version_by cat c None e l h = absurd (false≢true h)
of_version_by cat c (Some t) e l h = by_version (registered t c.version) refl h
  where
    by_version : (q : Option Registered) → registered t c.version ≡ q → option_map_or (λ r. has_change_shape t r c) q false ≡ true → IsOfVersion cat c
    by_version None d f = absurd (false≢true f)
    by_version (Some r) d f = let fits = change_fits c l in record { table = t; known = e; version = r; found = d; shape = f; lawful = l; ts = fits.moment; key = fits.short_key }

pub of_version : (cat : Catalogue) (c : Change) → IsTrue (is_deliverable cat c) → IsOfVersion cat c
of_version cat c h =
    let p = and_parts (is_change c) (option_map_or (λ t. option_map_or (λ r. has_change_shape t r c) (registered t c.version) false) (table_numbered cat c.table) false) h in
    of_version_by cat c (table_numbered cat c.table) refl p.0 p.1

found_at : (t : Table) (v : ℕ) (r : Registered) → registered t v ≡ Some r → AllByRecursion FineColumns t.versions → FineColumns r
found_at t zero r e a = cc
found_at t (suc v) r e a = got t.versions v e a
  where
    got : (rs : List Registered) (v : ℕ) → slice_get rs v ≡ Some r → AllByRecursion FineColumns rs → FineColumns r
    got [] v e a = cc
    got (x ∷ rs) zero e a = let d : x ≡ r = cc in subst FineColumns d a.0
    got (x ∷ rs) (suc v) e a = got rs v e a.1

module _ (cat : Catalogue) (c : Change) (is : IsCatalogue cat) (x : IsOfVersion cat c) where
  fine : FineColumns x.version
  fine = found_at x.table c.version x.version x.found (fine_table cat c.table x.table is x.known).versions

  sets : AllByRecursion (SetsColumn x.version) c.set
  sets = let p = and_parts (is_key_of (key_kinds x.table.key) c.key) (sets_shape c.op x.version.columns c.set) x.shape in
      all_map (λ s. IsTrue (shape_at x.version.columns s)) (SetsColumn x.version) c.set (sets_column x.version) (all_tests (shape_at x.version.columns) c.set (set_shapes c.op x.version.columns c.set p.1))

  pub its_columns : version_columns cat c.table c.version ≡ x.version.columns
  its_columns = ap (λ (o : Option Table). option_map_or (λ r. r.columns) (option_and_then (λ t. registered t c.version) o) []) x.known ∙ ap (λ (o : Option Registered). option_map_or (λ r. r.columns) o []) x.found

  -- ---- lawful

  lawful_cells : IsTrue (are_lawful (layout_of (columns_of x.version)) (flatten (layout_of (columns_of x.version)) c.set))
  lawful_cells = laid_lawful (layout_of (columns_of x.version)) (cell_in c.set) (logged_laid x.version c.set fine sets)

  -- ---- back

  shallow : IsTrue (list_all (λ k. is_rising k.1 && nat_le (nesting k.1) 4) (columns_of x.version))
  shallow = tests_hold (λ k. is_rising k.1 && nat_le (nesting k.1) 4) (columns_of x.version)
      (all_to_map (λ k. IsTrue (is_rising k.1 && nat_le (nesting k.1) 4)) (λ k. (k.number, k.kind)) x.version.columns
      (all_map (λ k. IsFineKind k.kind) (λ k. IsTrue (is_rising k.kind && nat_le (nesting k.kind) 4)) x.version.columns (λ k h. and_from _ _ h.0 (le-leb (nesting k.kind) 4 h.1)) fine.kinds))

  one_setting : (s : ℕ × Value) → SetsColumn x.version s → IsTrue (option_map_or (λ k. has_shape s.1 k.1) (find (λ k. k.0 == s.0) (columns_of x.version)) false)
  one_setting s h = subst (λ (o : Option (ℕ × Kind)). IsTrue (option_map_or (λ k. has_shape s.1 k.1) o false)) (sym (kind_of_column s.0 x.version.columns ∙ ap (option_map (λ k. (k.number, k.kind))) h.1)) h.2

  settings : IsTrue (are_settings (columns_of x.version) c.set)
  settings = tests_hold (λ s. option_map_or (λ k. has_shape s.1 k.1) (find (λ k. k.0 == s.0) (columns_of x.version)) false) c.set
      (all_map (SetsColumn x.version) (λ s. IsTrue (option_map_or (λ k. has_shape s.1 k.1) (find (λ k. k.0 == s.0) (columns_of x.version)) false)) c.set one_setting sets)

  back_at : (n : ℕ) → unflatten (layout_of (columns_of x.version)) (flatten (layout_of (columns_of x.version)) c.set) n ≡ setting n c.set
  back_at n = flattens_back-columns (columns_of x.version) c.set n (version_columns_are x.version fine).rise shallow settings

-- ---- lawful versions

none_deleted : (o : Op) (columns : List Column) (ls : List Leaf) (set : List (ℕ × Value)) → IsTrue (sets_shape o columns set) → (not (is_delete o) || list_all is_unset (flatten ls set)) ≡ true
none_deleted ops.Insert columns ls set h = refl
none_deleted ops.Update columns ls set h = refl
none_deleted ops.Delete columns ls set h = subst (λ (s : List (ℕ × Value)). IsTrue (list_all is_unset (flatten ls s))) (sym (none_long set (eqb-true (length set) 0 h))) (unset_all ls)

pub logged_lawful : (cat : Catalogue) (c : Change) → IsCatalogue cat → IsTrue (is_deliverable cat c) → IsTrue (is_version (logged_layout cat c.table c.version) (logged cat c))
logged_lawful cat c is h =
    let x = of_version cat c h in
    let p = and_parts (is_key_of (key_kinds x.table.key) c.key) (sets_shape c.op x.version.columns c.set) x.shape in
    subst (λ (columns : List Column). IsTrue (is_version (version_layout columns) (as_logged columns c))) (sym (its_columns cat c is x))
    (and_from _ _ (and_from _ _ (and_from _ _ (and_from _ _ (le-leb 4 (length (change_key c)) (long_key c)) x.key) x.ts) (lawful_cells cat c is x)) (none_deleted c.op x.version.columns (version_layout x.version.columns) c.set p.1))

pub logged_back : (cat : Catalogue) (c : Change) (n : ℕ) → IsCatalogue cat → IsTrue (is_deliverable cat c) → unflatten (logged_layout cat c.table c.version) (logged cat c).cells n ≡ setting n c.set
logged_back cat c n is h = let x = of_version cat c h in
    subst (λ (columns : List Column). unflatten (version_layout columns) (as_logged columns c).cells n ≡ setting n c.set) (sym (its_columns cat c is x)) (back_at cat c is x n)

-- ---- two changes that are logged alike

setting_low : (n low : ℕ) (xs : List (ℕ × Value)) → n ≤ low → IsTrue (rises_above low (map (λ s. s.0) xs)) → setting n xs ≡ None
setting_low n low [] l h = refl
setting_low n low (x ∷ xs) l h =
    let p = and_parts (nat_lt low x.0) (rises_above x.0 (map (λ s. s.0) xs)) h in
    let a : low < x.0 = ltb-true low x.0 p.0 in
    ap (λ (b : Bool). cond b (Some x.1) (setting n xs)) (ne_eqb n x.0 (λ e. absurd (omega (arith, e, l, a)))) ∙ setting_low n x.0 xs (omega (arith, l, a)) p.1

setting_here : (x : ℕ × Value) (xs : List (ℕ × Value)) → setting x.0 (x ∷ xs) ≡ Some x.1
setting_here x xs = ap (λ (b : Bool). cond b (Some x.1) (setting x.0 xs)) (eq-eqb x.0 x.0 refl)

setting_later : (n : ℕ) (x : ℕ × Value) (xs : List (ℕ × Value)) → x.0 < n → setting n (x ∷ xs) ≡ setting n xs
setting_later n x xs l = ap (λ (b : Bool). cond b (Some x.1) (setting n xs)) (ne_eqb n x.0 (λ e. absurd (omega (arith, e, l))))

no_some : {A : Type 0} (a : A) → None ≡ Some a → ⊥
no_some a e = cc

same_settings : (low : ℕ) (xs ys : List (ℕ × Value)) → IsTrue (rises_above low (map (λ s. s.0) xs)) → IsTrue (rises_above low (map (λ s. s.0) ys)) → ((n : ℕ) → setting n xs ≡ setting n ys) → xs ≡ ys
same_settings low [] [] h i f = refl
same_settings low [] (y ∷ ys) h i f = absurd (no_some y.1 (f y.0 ∙ setting_here y ys))
same_settings low (x ∷ xs) [] h i f = absurd (no_some x.1 (sym (f x.0) ∙ setting_here x xs))
same_settings low (x ∷ xs) (y ∷ ys) h i f = by_order (nat_lt x.0 y.0) (nat_lt y.0 x.0) refl refl
    (λ k. same_settings x.0 xs ys p.1 (subst (λ (n : ℕ). IsTrue (rises_above n (map (λ s. s.0) ys))) (sym k) q.1) (λ n. rest_by n (nat_lt x.0 n) refl k))
  where
    p : IsTrue (nat_lt low x.0) × IsTrue (rises_above x.0 (map (λ s. s.0) xs))
    p = and_parts (nat_lt low x.0) (rises_above x.0 (map (λ s. s.0) xs)) h

    q : IsTrue (nat_lt low y.0) × IsTrue (rises_above y.0 (map (λ s. s.0) ys))
    q = and_parts (nat_lt low y.0) (rises_above y.0 (map (λ s. s.0) ys)) i

    rest_by : (n : ℕ) (b : Bool) → nat_lt x.0 n ≡ b → x.0 ≡ y.0 → setting n xs ≡ setting n ys
    rest_by n true l e = let a : x.0 < n = ltb-true x.0 n l in sym (setting_later n x xs a) ∙ f n ∙ setting_later n y ys (omega (arith, a, e))
    rest_by n false l e = let a : n ≤ x.0 = ltb-false x.0 n l in setting_low n x.0 xs a p.1 ∙ sym (setting_low n y.0 ys (omega (arith, a, e)) q.1)

    one_of : (a b : ℕ × Value) → a.0 ≡ b.0 → a.1 ≡ b.1 → a ≡ b
    one_of a b e d = ap₂ (λ (n : ℕ) (v : Value). let s : ℕ × Value = (n, v) in s) e d

    by_order : (b c : Bool) → nat_lt x.0 y.0 ≡ b → nat_lt y.0 x.0 ≡ c → (x.0 ≡ y.0 → xs ≡ ys) → x ∷ xs ≡ y ∷ ys
    by_order true c e d g = absurd (no_some x.1 (sym (setting_low x.0 x.0 (y ∷ ys) (omega arith) (and_from _ _ e q.1)) ∙ sym (f x.0) ∙ setting_here x xs))
    by_order false true e d g = absurd (no_some y.1 (sym (setting_low y.0 y.0 (x ∷ xs) (omega arith) (and_from _ _ d p.1)) ∙ f y.0 ∙ setting_here y ys))
    by_order false false e d g =
        let a : y.0 ≤ x.0 = ltb-false x.0 y.0 e in
        let b : x.0 ≤ y.0 = ltb-false y.0 x.0 d in
        let k : x.0 ≡ y.0 = omega (arith, a, b) in
        let v : Some x.1 ≡ Some y.1 = sym (setting_here x xs) ∙ f x.0 ∙ ap (λ (n : ℕ). setting n (y ∷ ys)) k ∙ setting_here y ys in
        ap₂ (λ (s : ℕ × Value) (ss : List (ℕ × Value)). s ∷ ss) (one_of x y k cc) (g k)

same_parts : (n : ℕ) (ks : List KeyKind) (ps qs : List KeyPart) → IsTrue (is_key_of ks ps) → IsTrue (is_key_of ks qs) → key_bytes n ps ≡ key_bytes n qs → ps ≡ qs
same_parts n ks ps qs h i e = (keys_prefix_free n ks ps qs [] [] h i (append-nil (key_bytes n ps) ∙ e ∙ sym (append-nil (key_bytes n qs)))).0

one_change : (c d : Change) → c.ts ≡ d.ts → c.table ≡ d.table → c.version ≡ d.version → c.op ≡ d.op → c.key ≡ d.key → c.set ≡ d.set → c ≡ d
one_change c d t n v o k s =
    ap₂ (λ (x : ℕ) (y : ℕ). let e : Change = record { ts = x; table = y; version = c.version; op = c.op; key = c.key; set = c.set } in e) t n
    ∙ ap₂ (λ (x : ℕ) (y : Op). let e : Change = record { ts = d.ts; table = d.table; version = x; op = y; key = c.key; set = c.set } in e) v o
    ∙ ap₂ (λ (x : List KeyPart) (y : List (ℕ × Value)). let e : Change = record { ts = d.ts; table = d.table; version = d.version; op = d.op; key = x; set = y } in e) k s

pub logged_one : (cat : Catalogue) (c d : Change) → IsCatalogue cat → IsTrue (is_deliverable cat c) → IsTrue (is_deliverable cat d) → IsTrue (rises_above 0 (map (λ s. s.0) c.set)) → IsTrue (rises_above 0 (map (λ s. s.0) d.set))
    → c.table ≡ d.table → c.version ≡ d.version → logged cat c ≡ logged cat d → c ≡ d
logged_one cat c d is h i up above n v e =
    let x = of_version cat c h in
    let y = of_version cat d i in
    let same : Some x.table ≡ Some y.table = sym x.known ∙ ap (table_numbered cat) n ∙ y.known in
    let tables : x.table ≡ y.table = cc in
    let p = and_parts (is_key_of (key_kinds x.table.key) c.key) (sets_shape c.op x.version.columns c.set) x.shape in
    let q = and_parts (is_key_of (key_kinds y.table.key) d.key) (sets_shape d.op y.version.columns d.set) y.shape in
    let keys : key_bytes c.table c.key ≡ key_bytes c.table d.key = ap (λ (w : RowVersion). w.key) e ∙ ap (λ (m : ℕ). key_bytes m d.key) (sym n) in
    let layouts : logged_layout cat c.table c.version ≡ logged_layout cat d.table d.version = ap₂ (logged_layout cat) n v in
    one_change c d (ap (λ (w : RowVersion). w.ts) e) n v (ap (λ (w : RowVersion). w.op) e)
    (same_parts c.table (key_kinds x.table.key) c.key d.key p.0 (subst (λ (t : Table). IsTrue (is_key_of (key_kinds t.key) d.key)) (sym tables) q.0) keys)
    (same_settings 0 c.set d.set up above (λ k. sym (logged_back cat c k is h) ∙ ap₂ (λ (ls : List Leaf) (w : RowVersion). unflatten ls w.cells k) layouts e ∙ logged_back cat d k is i))

-- ---- longer catalogues

pub logged_stays : (cat wide : Catalogue) (c : Change) → IsCatalogue cat → Became cat wide → IsTrue (is_deliverable cat c) → (version_columns wide c.table c.version ≡ version_columns cat c.table c.version) × IsTrue (is_deliverable wide c)
logged_stays cat wide c is b h =
    let x = of_version cat c h in
    let g = (became_stays cat wide is b).again c.table c.version x.table x.version x.known x.found in
    let u = g.0 in
    let q = g.1 in
    let columns : version_columns wide c.table c.version ≡ q.columns = ap (λ (o : Option Table). option_map_or (λ r. r.columns) (option_and_then (λ t. registered t c.version) o) []) g.2 ∙ ap (λ (o : Option Registered). option_map_or (λ r. r.columns) o []) g.3 in
    let shape : has_change_shape u q c ≡ true = ap₂ (λ (k : List KeyColumn) (cs : List Column). is_key_of (key_kinds k) c.key && sets_shape c.op cs c.set) g.4 g.5 ∙ x.shape in
    let found : option_map_or (λ t. option_map_or (λ r. has_change_shape t r c) (registered t c.version) false) (table_numbered wide c.table) false ≡ true
    = ap (λ (o : Option Table). option_map_or (λ t. option_map_or (λ r. has_change_shape t r c) (registered t c.version) false) o false) g.2 ∙ ap (λ (o : Option Registered). option_map_or (λ r. has_change_shape u r c) o false) g.3 ∙ shape in
    (columns ∙ g.5 ∙ sym (its_columns cat c is x), and_from _ _ x.lawful found)

-- ---- at the carriers

goes_at : (wide : Catalogue) (c : Change) (is : IsCatalogue wide) (x : IsOfVersion wide c) → coerce (logged_layout wide c.table c.version) (carriers wide c.table) (flatten (logged_layout wide c.table c.version) c.set) ≡ flatten (carriers wide c.table) (map (carried wide c.table) c.set)
goes_at wide c is x =
    let known = known_carriers wide c.table x.table x.known in
    ap₂ (λ (columns : List Column) (ls : List Leaf). coerce (version_layout columns) ls (flatten (version_layout columns) c.set)) (its_columns wide c is x) known
    ∙ logged_goes x.table c.version x.version c.set (fine_table wide c.table x.table is x.known) (fine wide c is x) x.found (sets wide c is x)
    ∙ sym (ap₂ flatten known (carried_as wide c.table x.table c.set x.known))

pub logged_seen : (cat wide : Catalogue) (c : Change) → IsCatalogue cat → Became cat wide → IsTrue (is_deliverable cat c) → coerced (logged_layout cat c.table c.version) (carriers wide c.table) (logged cat c) ≡ seen wide c
unfolding seen
logged_seen cat wide c is b h =
    let s = logged_stays cat wide c is b h in
    ap (λ (columns : List Column). coerced (version_layout columns) (carriers wide c.table) (as_logged columns c)) (sym s.0)
    ∙ ap (λ (cells : List Cell). let v : RowVersion = record { key = change_key c; ts = c.ts; op = c.op; cells = cells } in v) (goes_at wide c (became_lawful cat wide is b) (of_version wide c s.1))

-- what it is seen as is lawful under the carriers
pub seen_is_lawful : (cat : Catalogue) (c : Change) → IsCatalogue cat → IsTrue (is_deliverable cat c) → IsTrue (is_version (carriers cat c.table) (seen cat c))
unfolding seen
seen_is_lawful cat c is h =
    let x = of_version cat c h in
    let known = known_carriers cat c.table x.table x.known in
    let ls = layout_of (cols x.table) in
    let cells : flatten (carriers cat c.table) (map (carried cat c.table) c.set) ≡ map (cell_in (set_at x.table c.set)) ls = ap₂ flatten known (carried_as cat c.table x.table c.set x.known) in
    let laid = seen_laid x.table c.version x.version c.set (fine_table cat c.table x.table is x.known) (fine cat c is x) x.found (sets cat c is x) in
    let p = and_parts (is_key_of (key_kinds x.table.key) c.key) (sets_shape c.op x.version.columns c.set) x.shape in
    and_from _ _ (and_from _ _ (and_from _ _ (and_from _ _ (le-leb 4 (length (change_key c)) (long_key c)) x.key) x.ts)
    (subst (λ (y : List Cell). IsTrue (are_lawful (carriers cat c.table) y)) (sym cells) (subst (λ (y : List Leaf). IsTrue (are_lawful y (map (cell_in (set_at x.table c.set)) ls))) (sym known) (laid_lawful ls (cell_in (set_at x.table c.set)) laid))))
    (none_deleted_at c.op x.version.columns (carriers cat c.table) (carried cat c.table) c.set p.1)
  where
    none_deleted_at : (o : Op) (columns : List Column) (ls : List Leaf) (f : ℕ × Value → ℕ × Value) (set : List (ℕ × Value)) → IsTrue (sets_shape o columns set) → (not (is_delete o) || list_all is_unset (flatten ls (map f set))) ≡ true
    none_deleted_at ops.Insert columns ls f set h = refl
    none_deleted_at ops.Update columns ls f set h = refl
    none_deleted_at ops.Delete columns ls f set h = subst (λ (s : List (ℕ × Value)). IsTrue (list_all is_unset (flatten ls (map f s)))) (sym (none_long set (eqb-true (length set) 0 h))) (unset_all ls)

pub logged_laws : LoggedLaws
logged_laws = record { lawful = logged_lawful; back = logged_back; one = logged_one; stays = logged_stays; seen = logged_seen }
