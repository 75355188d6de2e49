-- What fair changes set reads back from the cells: under a lawful catalogue a live version reads a row's cells as the row.
use Rattle.std.proofs.Common.{Bool, List, [], ap, arith, cond, eq-eqb, eqb-true, false, le-leb, length, lt-ltb, ltb-false, ltb-true, ne_eqb, refl, subst, suc, sym, true, zero, ℕ, ◌<◌, ◌∙◌, ◌∷◌, ◌≡◌, ◌≤◌}
use Rattle.std.specs.Prelude.{Contains, IsTrue, None, Option, Some, filter, flat_map, fold, is_some, map, nat_le, nat_lt, not, option_and_then, option_map, slice_get, ⊤, ◌&&◌, ◌==◌, ◌||◌}
use Rattle.std.proofs.lemmas.Bool.{and_from, and_parts, eqb-false, false≢true}
use Rattle.std.specs.List.{AllByRecursion, cons_option, list_all, list_any}
use Rattle.std.specs.Option.{option_map_or}
use Rattle.lt_terms.specs.Value.{Value, is_number, rises_above}
use Rattle.lt_terms.specs.Kind.{Kind, has_shape, nesting}
use Rattle.lt_terms.specs.declared.Op.{Op}
use Rattle.lt_terms.specs.Log.{Change, Header, is_change, is_log_value}
use Rattle.lt_terms.specs.Layout.{flatten}
use Rattle.lt_tables.specs.Schema.{Catalogue, Column, IsCatalogue, Registered, Table, carrier, carriers, carriers_of, column_live, column_numbered, column_numbers, has_column, put_number, registered, sets_shape, shapes_of, table_numbered}
use Rattle.lt_tables.specs.Fair.{has_change_shape}
use Rattle.lt_tables.specs.Row.{Row, after_change, read_row, row_by}
use Rattle.lt_tables.specs.Version.{carried, read_cells}
use Rattle.lt_codecs.proofs.ListFacts.{all_append, all_both, all_map, all_of_map}
use Rattle.lt_lemmas.proofs.TableLaws.{FineColumns, IsFineKind, IsFineTable, fine_table}
use Rattle.lt_lemmas.proofs.ConversionLemmas.{is_rising}
use Rattle.lt_lemmas.proofs.ListFacts.{all_from, find_all}
use Rattle.lt_laws.proofs.ListFacts.{all_at, contains_front, contains_rest}
use Rattle.lt_laws.proofs.TableLaws.{carrier_carries, carrier_stands, carrier_takes}
use Rattle.lt_laws.proofs.ScanLemmas.{AreFine, IsCarried, IsWithin, kind_for, read-carried}
use Rattle.lt_laws.proofs.CarrierLaws.{shape_within}
use Rattle.lt_laws.proofs.TakenLaws.{Passes, change_shaped}
use Rattle.lt_terms.specs.declared.Op.TheVariants as ops
use Rattle.lt_lemmas.proofs.SnapshotLaws.{or_left, or_right}
use Rattle.lt_store_codecs.proofs.ManifestLaws.{all_above}
use Rattle.lt_lemmas.proofs.PointLaws.{left, right}

-- ---- numbers that rise

rises_put_by : (low n m : ℕ) (ms : List ℕ) (b d : Bool) → nat_lt n m ≡ d → (n == m) ≡ b → low < n → IsTrue (rises_above low (m ∷ ms)) → (m < n → IsTrue (rises_above m (put_number n ms)))
    → IsTrue (rises_above low (cond b (m ∷ ms) (cond d (n ∷ m ∷ ms) (m ∷ put_number n ms))))
rises_put_by low n m ms true d e f l up ih = up
rises_put_by low n m ms false true e f l up ih = and_from _ _ (lt-ltb low n l) (and_from _ _ e (and_parts (nat_lt low m) (rises_above m ms) up).1)
rises_put_by low n m ms false false e f l up ih = and_from _ _ (and_parts (nat_lt low m) (rises_above m ms) up).0 (ih (omega (arith, ltb-false n m e, eqb-false n m f)))

rises_put : (low n : ℕ) (ms : List ℕ) → low < n → IsTrue (rises_above low ms) → IsTrue (rises_above low (put_number n ms))
rises_put low n [] l up = and_from _ _ (lt-ltb low n l) refl
rises_put low n (m ∷ ms) l up = rises_put_by low n m ms (n == m) (nat_lt n m) refl refl l up (λ h. rises_put m n ms h (and_parts (nat_lt low m) (rises_above m ms) up).1)

rises_lower : (low high : ℕ) (ns : List ℕ) → low ≤ high → IsTrue (rises_above high ns) → IsTrue (rises_above low ns)
rises_lower low high [] l up = refl
rises_lower low high (n ∷ ns) l up = let p = and_parts (nat_lt high n) (rises_above n ns) up in and_from _ _ (lt-ltb low n (let h : high < n = ltb-true high n p.0 in omega (arith, l, h))) p.1

rises_kept_by : (p : ℕ → Bool) (low n : ℕ) (ns : List ℕ) (b : Bool) → low < n → IsTrue (rises_above n (filter p ns)) → IsTrue (rises_above low (cond b (n ∷ filter p ns) (filter p ns)))
rises_kept_by p low n ns true l up = and_from _ _ (lt-ltb low n l) up
rises_kept_by p low n ns false l up = rises_lower low n (filter p ns) (omega (arith, l)) up

pub rises_kept : (p : ℕ → Bool) (low : ℕ) (ns : List ℕ) → IsTrue (rises_above low ns) → IsTrue (rises_above low (filter p ns))
rises_kept p low [] up = refl
rises_kept p low (n ∷ ns) up = let q = and_parts (nat_lt low n) (rises_above n ns) up in rises_kept_by p low n ns (p n) (ltb-true low n q.0) (rises_kept p n ns q.1)

-- ---- the numbers of a table's columns

columns_above : (rs : List Registered) → AllByRecursion FineColumns rs → AllByRecursion (λ c. 0 < c.number) (flat_map (λ r. r.columns) rs)
columns_above [] a = tt
columns_above (r ∷ rs) a = all_append (λ c. 0 < c.number) r.columns (flat_map (λ r. r.columns) rs) (all_of_map (λ n. 0 < n) (λ (c : Column). c.number) r.columns (all_above 0 (map (λ c. c.number) r.columns) a.0.rise)) (columns_above rs a.1)

numbers_rise : (cs : List Column) (ns : List ℕ) → AllByRecursion (λ c. 0 < c.number) cs → IsTrue (rises_above 0 ns) → IsTrue (rises_above 0 (fold (λ ns c. put_number c.number ns) ns cs))
numbers_rise [] ns a up = up
numbers_rise (c ∷ cs) ns a up = numbers_rise cs (put_number c.number ns) a.1 (rises_put 0 c.number ns a.0 up)

column_numbers_rise : (t : Table) → IsFineTable t → IsTrue (rises_above 0 (column_numbers t))
column_numbers_rise t f = numbers_rise (flat_map (λ r. r.columns) t.versions) [] (columns_above t.versions f.versions) refl

carriers_rise_by : (low n : ℕ) (o : Option Kind) (xs : List (ℕ × Kind)) → low < n → IsTrue (rises_above n (map (λ x. x.0) xs)) → IsTrue (rises_above low (map (λ x. x.0) (cons_option (option_map (λ k. (n, k)) o) xs)))
carriers_rise_by low n None xs l up = rises_lower low n (map (λ x. x.0) xs) (omega (arith, l)) up
carriers_rise_by low n (Some k) xs l up = and_from _ _ (lt-ltb low n l) up

carriers_rise : (t : Table) (low : ℕ) (ns : List ℕ) → IsTrue (rises_above low ns) → IsTrue (rises_above low (map (λ x. x.0) (carriers_of t ns)))
carriers_rise t low [] up = refl
carriers_rise t low (n ∷ ns) up = let p = and_parts (nat_lt low n) (rises_above n ns) up in carriers_rise_by low n (carrier t n) (carriers_of t ns) (ltb-true low n p.0) (carriers_rise t n ns p.1)

abbrev is_fine_kind : ℕ × Kind → Bool
is_fine_kind c = is_rising c.1 && nat_le (nesting c.1) 4

carriers_fine_by : (n : ℕ) (o : Option Kind) (xs : List (ℕ × Kind)) → ((k : Kind) → o ≡ Some k → IsFineKind k) → IsTrue (list_all is_fine_kind xs) → IsTrue (list_all is_fine_kind (cons_option (option_map (λ k. (n, k)) o) xs))
carriers_fine_by n None xs f h = h
carriers_fine_by n (Some k) xs f h = let g = f k refl in and_from _ _ (and_from _ _ g.0 (le-leb (nesting k) 4 g.1)) h

carriers_fine : (t : Table) (ns : List ℕ) → IsFineTable t → IsTrue (list_all is_fine_kind (carriers_of t ns))
carriers_fine t [] f = refl
carriers_fine t (n ∷ ns) f = carriers_fine_by n (carrier t n) (carriers_of t ns) (λ k e. (carrier_carries t n k f e).0.fine) (carriers_fine t ns f)

-- the live columns of a table
abbrev pub live_numbers : Table → List ℕ
live_numbers t = filter (column_live t) (column_numbers t)

pub are_fine : (t : Table) → IsFineTable t → AreFine (carriers_of t (live_numbers t))
are_fine t f = (carriers_rise t 0 (live_numbers t) (rises_kept (column_live t) 0 (column_numbers t) (column_numbers_rise t f)), carriers_fine t (live_numbers t) f)

-- ---- a column of a live version is among them

abbrev pub has_number : ℕ → List ℕ → Bool
has_number n ns = list_any (λ m. m == n) ns

put_found_by : (n m : ℕ) (ms : List ℕ) (b d : Bool) → (n == m) ≡ b → has_number n (put_number n ms) ≡ true → has_number n (cond b (m ∷ ms) (cond d (n ∷ m ∷ ms) (m ∷ put_number n ms))) ≡ true
put_found_by n m ms true d e ih = or_left (m == n) (has_number n ms) (eq-eqb m n (sym (eqb-true n m e)))
put_found_by n m ms false true e ih = or_left (n == n) (has_number n (m ∷ ms)) (eq-eqb n n refl)
put_found_by n m ms false false e ih = or_right (m == n) (has_number n (put_number n ms)) ih

put_found : (n : ℕ) (ms : List ℕ) → has_number n (put_number n ms) ≡ true
put_found n [] = or_left (n == n) false (eq-eqb n n refl)
put_found n (m ∷ ms) = put_found_by n m ms (n == m) (nat_lt n m) refl (put_found n ms)

put_keeps_by : (k n m : ℕ) (ms : List ℕ) (b d a : Bool) → (m == k) ≡ a → (a || has_number k ms) ≡ true → (has_number k ms ≡ true → has_number k (put_number n ms) ≡ true)
    → has_number k (cond b (m ∷ ms) (cond d (n ∷ m ∷ ms) (m ∷ put_number n ms))) ≡ true
put_keeps_by k n m ms true d a e h ih = ap (λ (x : Bool). x || has_number k ms) e ∙ h
put_keeps_by k n m ms false true a e h ih = or_right (n == k) (has_number k (m ∷ ms)) (ap (λ (x : Bool). x || has_number k ms) e ∙ h)
put_keeps_by k n m ms false false true e h ih = or_left (m == k) (has_number k (put_number n ms)) e
put_keeps_by k n m ms false false false e h ih = or_right (m == k) (has_number k (put_number n ms)) (ih h)

put_keeps : (k n : ℕ) (ms : List ℕ) → has_number k ms ≡ true → has_number k (put_number n ms) ≡ true
put_keeps k n [] h = cc
put_keeps k n (m ∷ ms) h = put_keeps_by k n m ms (n == m) (nat_lt n m) (m == k) refl h (put_keeps k n ms)

numbers_keep : (k : ℕ) (cs : List Column) (ns : List ℕ) → has_number k ns ≡ true → has_number k (fold (λ ns c. put_number c.number ns) ns cs) ≡ true
numbers_keep k [] ns h = h
numbers_keep k (c ∷ cs) ns h = numbers_keep k cs (put_number c.number ns) (put_keeps k c.number ns h)

pub numbers_found : (c : Column) (cs : List Column) (ns : List ℕ) → Contains cs c → has_number c.number (fold (λ ns c. put_number c.number ns) ns cs) ≡ true
numbers_found c [] ns h = absurd (omega (arith, h.1))
numbers_found c (d ∷ cs) ns (zero, l, e) = numbers_keep c.number cs (put_number d.number ns) (ap (λ (x : Column). has_number x.number (put_number d.number ns)) (sym e) ∙ put_found d.number ns)
numbers_found c (d ∷ cs) ns (suc k, l, e) = numbers_found c cs (put_number d.number ns) (k, omega (arith, l), e)

filter_found_by : (p : ℕ → Bool) (k n : ℕ) (ns : List ℕ) (a b : Bool) → (n == k) ≡ a → p n ≡ b → (a ≡ true → b ≡ true) → (a || has_number k ns) ≡ true → (has_number k ns ≡ true → has_number k (filter p ns) ≡ true)
    → has_number k (cond b (n ∷ filter p ns) (filter p ns)) ≡ true
filter_found_by p k n ns true true e f g h ih = or_left (n == k) (has_number k (filter p ns)) e
filter_found_by p k n ns true false e f g h ih = absurd (false≢true (g refl))
filter_found_by p k n ns false true e f g h ih = or_right (n == k) (has_number k (filter p ns)) (ih h)
filter_found_by p k n ns false false e f g h ih = ih h

pub filter_found : (p : ℕ → Bool) (k : ℕ) (ns : List ℕ) → p k ≡ true → has_number k ns ≡ true → has_number k (filter p ns) ≡ true
filter_found p k [] q h = cc
filter_found p k (n ∷ ns) q h = filter_found_by p k n ns (n == k) (p n) refl refl (λ e. ap p (eqb-true n k e) ∙ q) h (filter_found p k ns q)

kind_found_by : (t : Table) (n m : ℕ) (ns : List ℕ) (k : Kind) (o : Option Kind) (b : Bool) → carrier t m ≡ o → (m == n) ≡ b → carrier t n ≡ Some k → (b || has_number n ns) ≡ true → (has_number n ns ≡ true → kind_for (carriers_of t ns) n ≡ Some (n, k))
    → kind_for (cons_option (option_map (λ k. (m, k)) o) (carriers_of t ns)) n ≡ Some (n, k)
kind_found_by t n m ns k None true e f g h ih = let d : None ≡ Some k = sym e ∙ ap (carrier t) (eqb-true m n f) ∙ g in cc
kind_found_by t n m ns k (Some l) true e f g h ih = let j = eqb-true m n f in let d : Some l ≡ Some k = sym e ∙ ap (carrier t) j ∙ g in let c : l ≡ k = cc in
    ap (λ (b : Bool). cond b (Some (m, l)) (kind_for (carriers_of t ns) n)) f ∙ ap (λ (i : ℕ). let x : ℕ × Kind = (i, l) in Some x) j ∙ ap (λ (z : Kind). let x : ℕ × Kind = (n, z) in Some x) c
kind_found_by t n m ns k None false e f g h ih = ih h
kind_found_by t n m ns k (Some l) false e f g h ih = ap (λ (b : Bool). cond b (Some (m, l)) (kind_for (carriers_of t ns) n)) f ∙ ih h

pub kind_found : (t : Table) (n : ℕ) (ns : List ℕ) (k : Kind) → carrier t n ≡ Some k → has_number n ns ≡ true → kind_for (carriers_of t ns) n ≡ Some (n, k)
kind_found t n [] k g h = cc
kind_found t n (m ∷ ns) k g h = kind_found_by t n m ns k (carrier t m) (m == n) refl refl g h (kind_found t n ns k g)

got_all : {A : Type 0} (P : A → Type 0) (xs : List A) (i : ℕ) (x : A) → AllByRecursion P xs → slice_get xs i ≡ Some x → P x
got_all P [] i x a e = cc
got_all P (y ∷ ys) zero x a e = let d : y ≡ x = cc in subst P d a.0
got_all P (y ∷ ys) (suc i) x a e = got_all P ys i x a.1 e

got_any : {A : Type 0} (test : A → Bool) (xs : List A) (i : ℕ) (x : A) → slice_get xs i ≡ Some x → test x ≡ true → list_any test xs ≡ true
got_any test [] i x e h = cc
got_any test (y ∷ ys) zero x e h = let d : y ≡ x = cc in or_left (test y) (list_any test ys) (ap test d ∙ h)
got_any test (y ∷ ys) (suc i) x e h = or_right (test y) (list_any test ys) (got_any test ys i x e h)

version_fine : (t : Table) (v : ℕ) (r : Registered) → IsFineTable t → registered t v ≡ Some r → FineColumns r
version_fine t zero r f e = cc
version_fine t (suc v) r f e = got_all FineColumns t.versions v r f.versions e

column_is_live : (t : Table) (v : ℕ) (r : Registered) (c : Column) → registered t v ≡ Some r → IsTrue r.live → column_numbered r.columns c.number ≡ Some c → column_live t c.number ≡ true
column_is_live t zero r c e l d = cc
column_is_live t (suc v) r c e l d = got_any (λ r. r.live && has_column c.number r) t.versions v r e (and_from _ _ l (ap is_some d))

joined_contains : (rs : List Registered) (i : ℕ) (r : Registered) (c : Column) → slice_get rs i ≡ Some r → Contains r.columns c → Contains (flat_map (λ r. r.columns) rs) c
joined_contains [] i r c e h = cc
joined_contains (s ∷ rs) zero r c e h = let d : r ≡ s = cc in contains_front s.columns (flat_map (λ r. r.columns) rs) c (subst (λ (x : Registered). Contains x.columns c) d h)
joined_contains (s ∷ rs) (suc i) r c e h = contains_rest s.columns (flat_map (λ r. r.columns) rs) c (joined_contains rs i r c e h)

table_contains : (t : Table) (v : ℕ) (r : Registered) (c : Column) → registered t v ≡ Some r → Contains r.columns c → Contains (flat_map (λ r. r.columns) t.versions) c
table_contains t zero r c e h = cc
table_contains t (suc v) r c e h = joined_contains t.versions v r c e h

-- where numbers rise each column is found by its number
named_later : (c d : Column) (cs : List Column) → c.number < d.number → column_numbered cs d.number ≡ Some d → column_numbered (c ∷ cs) d.number ≡ Some d
named_later c d cs l e = ap (λ (b : Bool). cond b (Some c) (column_numbered cs d.number)) (ne_eqb c.number d.number (λ x. absurd (omega (arith, x, l)))) ∙ e

columns_named : (low : ℕ) (cs : List Column) → IsTrue (rises_above low (map (λ c. c.number) cs)) → AllByRecursion (λ c. column_numbered cs c.number ≡ Some c) cs
columns_named low [] up = tt
columns_named low (c ∷ cs) up = let p = and_parts (nat_lt low c.number) (rises_above c.number (map (λ c. c.number) cs)) up in (
  ap (λ (b : Bool). cond b (Some c) (column_numbered cs c.number)) (eq-eqb c.number c.number refl),
  all_both (λ d. c.number < d.number) (λ d. column_numbered cs d.number ≡ Some d) (λ d. column_numbered (c ∷ cs) d.number ≡ Some d) cs (λ d. named_later c d cs)
      (all_of_map (λ n. c.number < n) (λ (c : Column). c.number) cs (all_above c.number (map (λ c. c.number) cs) p.1)) (columns_named c.number cs p.1),
)

column_carried : (t : Table) (v : ℕ) (r : Registered) (c : Column) → IsFineTable t → registered t v ≡ Some r → IsTrue r.live → Contains r.columns c → column_numbered r.columns c.number ≡ Some c → IsCarried t (live_numbers t) c
column_carried t v r c f e l h d =
    let k = carrier_stands t v c.number r c e d in
    let live = column_is_live t v r c e l d in record {
      kind = (c.number, k.0);
      found = kind_found t c.number (live_numbers t) k.0 k.1 (filter_found (column_live t) c.number (column_numbers t) live (numbers_found c (flat_map (λ r. r.columns) t.versions) [] (table_contains t v r c e h)));
      alike = ap not (carrier_takes t v c.number r c k.0 f e d k.1).1;
    }

-- each column of a live version has a carrier that reads as it
pub columns_carried : (t : Table) (v : ℕ) (r : Registered) → IsFineTable t → registered t v ≡ Some r → IsTrue r.live → AllByRecursion (IsCarried t (live_numbers t)) r.columns
columns_carried t v r f e l = let named = columns_named 0 r.columns (version_fine t v r f e).rise in
    all_from (IsCarried t (live_numbers t)) r.columns (λ c h. column_carried t v r c f e l h (all_at (λ c. column_numbered r.columns c.number ≡ Some c) r.columns c named h))

-- ---- what a fair change sets lies within the carriers

abbrev pub shape_at : List Column → ℕ × Value → Bool
shape_at columns s = option_map_or (λ c. has_shape s.1 c.kind) (column_numbered columns s.0) false

pub set_shapes : (o : Op) (columns : List Column) (set : List (ℕ × Value)) → sets_shape o columns set ≡ true → list_all (shape_at columns) set ≡ true
set_shapes ops.Insert columns set h = (and_parts _ (shapes_of columns set) h).1
set_shapes ops.Update columns set h = h
set_shapes ops.Delete columns [] h = refl
set_shapes ops.Delete columns (s ∷ set) h = absurd (omega (arith, eqb-true (length (s ∷ set)) 0 h))

pub all_tests : {A : Type 0} (test : A → Bool) (xs : List A) → list_all test xs ≡ true → AllByRecursion (λ x. IsTrue (test x)) xs
all_tests test [] h = tt
all_tests test (x ∷ xs) h = let p = and_parts (test x) (list_all test xs) h in (p.0, all_tests test xs p.1)

setting_lies : (t : Table) (v : ℕ) (r : Registered) (s : ℕ × Value) (o : Option Column) → IsFineTable t → registered t v ≡ Some r → column_numbered r.columns s.0 ≡ o → option_map_or (λ c. has_shape s.1 c.kind) o false ≡ true → IsTrue (is_log_value s.1) → IsWithin t s
setting_lies t v r s None f e d h l = absurd (false≢true h)
setting_lies t v r s (Some c) f e d h l =
    let fine = (find_all (λ c. IsFineKind c.kind) (λ c. c.number == s.0) r.columns c (version_fine t v r f e).kinds d).0 in record {
      depth = 4;
      value = l;
      within = λ k g. (carrier_takes t v s.0 r c k f e d g).0 s.1 (shape_within s.1 c.kind fine.0 h);
    }

pub change_sets_by : (t : Table) (c : Change) (v : ℕ) (o : Option Registered) → IsFineTable t → registered t v ≡ o → option_map_or (λ r. has_change_shape t r c) o false ≡ true → AllByRecursion (λ s. IsTrue (is_log_value s.1)) c.set → AllByRecursion (IsWithin t) c.set
change_sets_by t c v None f e h l = absurd (false≢true h)
change_sets_by t c v (Some r) f e h l = all_both (λ s. IsTrue (shape_at r.columns s)) (λ s. IsTrue (is_log_value s.1)) (IsWithin t) c.set (λ s a b. setting_lies t v r s (column_numbered r.columns s.0) f e refl a b)
    (all_tests (shape_at r.columns) c.set (set_shapes c.op r.columns c.set (and_parts _ (sets_shape c.op r.columns c.set) h).1)) l

pub log_values : (c : Change) → IsTrue (is_change c) → AllByRecursion (λ s. IsTrue (is_log_value s.1)) c.set
log_values c l = all_map (λ s. IsTrue (is_number s.0 && is_log_value s.1)) (λ s. IsTrue (is_log_value s.1)) c.set (λ s h. (and_parts (is_number s.0) (is_log_value s.1) h).1)
    (all_tests (λ s. is_number s.0 && is_log_value s.1) c.set (right _ (list_all (λ s. is_number s.0 && is_log_value s.1) c.set) (left _ _ l)))

-- of a lawful change that passes, each setting lies within its column's carrier
pub change_within : (h : Header) (cat : Catalogue) (t : Table) (c : Change) → IsCatalogue cat → table_numbered cat c.table ≡ Some t → Passes h cat c → IsTrue (is_change c) → AllByRecursion (IsWithin t) c.set
change_within h cat t c is e p l =
    let shaped = change_shaped h cat p.0 c p.1 in
    let at : option_map_or (λ r. has_change_shape t r c) (registered t c.version) false ≡ true
    = sym (ap (λ (o : Option Table). option_map_or (λ t. option_map_or (λ r. has_change_shape t r c) (option_and_then (λ t. registered t c.version) o) false) o false) e) ∙ shaped in
    change_sets_by t c c.version (registered t c.version) (fine_table cat c.table t is e) refl at (log_values c l)

-- ---- and so do the settings of the rows that they make

abbrev pub RowWithin : Table → Row → Type 0
RowWithin t None = ⊤
RowWithin t (Some set) = AllByRecursion (IsWithin t) set

row_by_within : (t : Table) (o : Op) (set : List (ℕ × Value)) (row : Row) → AllByRecursion (IsWithin t) set → RowWithin t row → RowWithin t (row_by o set row)
row_by_within t ops.Insert set row a r = a
row_by_within t ops.Delete set row a r = tt
row_by_within t ops.Update set None a r = tt
row_by_within t ops.Update set (Some was) a r = all_append (IsWithin t) set was a r

pub row_within : (t : Table) (cs : List Change) (row : Row) → AllByRecursion (λ c. AllByRecursion (IsWithin t) c.set) cs → RowWithin t row → RowWithin t (fold after_change row cs)
row_within t [] row a r = r
row_within t (c ∷ cs) row a r = row_within t cs (after_change row c) a.1 (row_by_within t c.op c.set row a.0 r)

-- Under a lawful catalogue a live version reads the cells of such a row as the row.
pub row_reads : (cat : Catalogue) (t : Table) (v : ℕ) (r : Registered) (set : List (ℕ × Value)) → IsCatalogue cat → table_numbered cat t.number ≡ Some t → registered t v ≡ Some r → IsTrue r.live → AllByRecursion (IsWithin t) set
    → read_cells t r.columns (carriers cat t.number) (flatten (carriers cat t.number) (map (carried cat t.number) set)) ≡ read_row t r.columns set
row_reads cat t v r set is e d l w = let f = fine_table cat t.number t is e in read-carried cat t r.columns set e (are_fine t f) w (columns_carried t v r f d l)
