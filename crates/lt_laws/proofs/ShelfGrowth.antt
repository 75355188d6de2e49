-- A shelf with one delta more: what the ids name on it, and what a partition has stored that lists the new delta too.
use Rattle.std.proofs.Common.{Bool, List, [], ap, ap₂, arith, cond, eq-eqb, eqb-true, false, inl, inr, length, lt-ltb, ltb-true, ne_eqb, refl, subst, sym, true, zero, ℕ, ◌++◌, ◌<◌, ◌∙◌, ◌∷◌, ◌≡◌}
use Rattle.std.specs.Prelude.{Contains, IsTrue, None, Option, Some, filter, filter_map, find, is_some, map, option_map, ◌&&◌, ◌==◌, ◌⊎◌}
use Rattle.std.proofs.lemmas.Bool.{and_parts, false≢true}
use Rattle.std.specs.List.{AllByRecursion, cons_option}
use Rattle.std.specs.Option.{option_map_or, option_or}
use Rattle.std.proofs.lemmas.List.{map-append}
use Rattle.lt_terms.specs.Key.{same_key}
use Rattle.lt_terms.specs.Log.{Change, change_key}
use Rattle.lt_tables.specs.Version.{RowVersion, coerce_all, coerced, is_ordered, merge, seen, stands_before}
use Rattle.lt_tables.specs.Schema.{Catalogue, IsCatalogue, Table, carriers, first_of, table_numbered}
use Rattle.lt_tables.specs.Pump.{names_rise}
use Rattle.lt_storage.specs.Store.{Delta, TableDelta, carried_versions, delta_with, deltas_of, table_of, versions_in}
use Rattle.lt_machine.specs.Machine.{delta_of, flushed_lists, not_empty, seen_pending, table_delta, table_numbers}
use Rattle.lt_lemmas.proofs.ListFacts.{all_from, filter_map-append, find_held, mapped_some}
use Rattle.lt_lemmas.proofs.MergeLaws.{Above, named, named-key, named-ts, ordered-above, ordered-cons, ordered-tail}
use Rattle.lt_lemmas.proofs.PointLaws.{first_of-append, same}
use Rattle.lt_lemmas.proofs.PumpLaws.{Name, as_version, as_versions}
use Rattle.lt_laws.proofs.MergeLaws.{merge-first, merge-ordered}
use Rattle.lt_laws.proofs.ScanLemmas.{found-held, from-filter, held-found, in-filter, seen-key, seen-ts}
use Rattle.lt_laws.proofs.AnswerLaws.{IsSound}
use Rattle.lt_laws.proofs.CoerceLaws.{map_same}
use Rattle.lt_laws.proofs.ListFacts.{all_at, from_map, held_is_found, in_map}
use Rattle.lt_laws.proofs.ScanLaws.{seen_from}
use Rattle.lt_laws.proofs.SeenLaws.{seen_own}
use Rattle.lt_laws.proofs.ListLaws.{cut-whole}
use Rattle.lt_laws.proofs.WidenedRows.{sound_shape}
use Rattle.lt_machine.specs.Machine as machine

-- ---- what ids name

some_stays_by : {A : Type 0} (x : A) (o p : Option A) (b : Bool) → (is_some o ≡ true → p ≡ o) → is_some (cond b (Some x) o) ≡ true → cond b (Some x) p ≡ cond b (Some x) o
some_stays_by x o p true f h = refl
some_stays_by x o p false f h = f h

pub known_stays : (shelf ys : List Delta) (id : ℕ) → is_some (delta_with shelf id) ≡ true → delta_with (shelf ++ ys) id ≡ delta_with shelf id
known_stays [] ys id h = absurd (false≢true h)
known_stays (x ∷ shelf) ys id h = some_stays_by x (delta_with shelf id) (delta_with (shelf ++ ys) id) (x.id == id) (known_stays shelf ys id) h

pub named_stay : (shelf ys : List Delta) (ids : List ℕ) → AllByRecursion (λ i. IsTrue (is_some (delta_with shelf i))) ids → deltas_of (shelf ++ ys) ids ≡ deltas_of shelf ids
named_stay shelf ys [] a = refl
named_stay shelf ys (i ∷ ids) a = ap₂ cons_option (known_stays shelf ys i a.0) (named_stay shelf ys ids a.1)

pub new_named : (shelf : List Delta) (x : Delta) → AllByRecursion (λ y. y.id < x.id) shelf → delta_with (shelf ++ x ∷ []) x.id ≡ Some x
new_named [] x a = ap (λ (b : Bool). cond b (Some x) None) (eq-eqb x.id x.id refl)
new_named (y ∷ shelf) x a = ap (λ (b : Bool). cond b (Some y) (delta_with (shelf ++ x ∷ []) x.id)) (ne_eqb y.id x.id (λ e. let h : y.id < x.id = a.0 in omega (arith, e, h))) ∙ new_named shelf x a.1

pub with_new : (shelf : List Delta) (x : Delta) (ids : List ℕ) → AllByRecursion (λ y. y.id < x.id) shelf → AllByRecursion (λ i. IsTrue (is_some (delta_with shelf i))) ids → deltas_of (shelf ++ x ∷ []) (ids ++ x.id ∷ []) ≡ deltas_of shelf ids ++ x ∷ []
with_new shelf x ids low known = filter_map-append (delta_with (shelf ++ x ∷ [])) ids (x.id ∷ [])
    ∙ ap₂ (λ (a b : List Delta). a ++ b) (named_stay shelf (x ∷ []) ids known) (ap (λ (o : Option Delta). cons_option o []) (new_named shelf x low))

-- ---- a merge of more lists

one_or : (o p : Option RowVersion) (v : RowVersion) → option_or o p ≡ Some v → (o ≡ Some v) ⊎ (p ≡ Some v)
one_or (Some w) p v e = inl e
one_or None p v e = inr e

find_more : (key : List ℕ) (t : ℕ) (xs ys : List (List RowVersion)) → find (named key t) (merge (xs ++ ys)) ≡ option_or (find (named key t) (merge xs)) (find (named key t) (merge ys))
find_more key t xs ys = merge-first key t (xs ++ ys) ∙ ap first_of (map-append (find (named key t)) xs ys) ∙ first_of-append (map (find (named key t)) xs) (map (find (named key t)) ys)
    ∙ sym (ap₂ option_or (merge-first key t xs) (merge-first key t ys))

pub merged_from : (xs ys : List (List RowVersion)) (v : RowVersion) → Contains (merge (xs ++ ys)) v → Contains (merge xs) v ⊎ Contains (merge ys) v
merged_from xs ys v h =
    let f : find (named v.key v.ts) (merge (xs ++ ys)) ≡ Some v = held-found (merge (xs ++ ys)) v (merge-ordered (xs ++ ys)) h in
    elim (one_or (find (named v.key v.ts) (merge xs)) (find (named v.key v.ts) (merge ys)) v (sym (find_more v.key v.ts xs ys) ∙ f)) [
      | inl e ↦ inl (found-held (named v.key v.ts) (merge xs) v e).0
      | inr e ↦ inr (found-held (named v.key v.ts) (merge ys) v e).0
    ]

pub merged_old : (xs ys : List (List RowVersion)) (v : RowVersion) → Contains (merge xs) v → Contains (merge (xs ++ ys)) v
merged_old xs ys v h =
    let f : find (named v.key v.ts) (merge xs) ≡ Some v = held-found (merge xs) v (merge-ordered xs) h in
    (found-held (named v.key v.ts) (merge (xs ++ ys)) v (find_more v.key v.ts xs ys ∙ ap (λ (o : Option RowVersion). option_or o (find (named v.key v.ts) (merge ys))) f)).0

-- where the first lists say the same of its name, or nothing
pub merged_new : (xs ys : List (List RowVersion)) (v : RowVersion) → Contains (merge ys) v → ((w : RowVersion) → Contains (merge xs) w → w.key ≡ v.key → w.ts ≡ v.ts → w ≡ v) → Contains (merge (xs ++ ys)) v
merged_new xs ys v h same_one =
    let n = named v.key v.ts in
    let f : find n (merge ys) ≡ Some v = held-found (merge ys) v (merge-ordered ys) h in
    (found-held n (merge (xs ++ ys)) v (find_more v.key v.ts xs ys ∙ by_old (find n (merge xs)) refl ∙ f)).0
  where
    by_old : (o : Option RowVersion) → find (named v.key v.ts) (merge xs) ≡ o → option_or o (find (named v.key v.ts) (merge ys)) ≡ find (named v.key v.ts) (merge ys)
    by_old None e = refl
    by_old (Some w) e =
        let g = found-held (named v.key v.ts) (merge xs) w e in
        let d : w ≡ v = same_one w g.0 (sym (named-key v.key v.ts w g.1)) (named-ts v.key v.ts w g.1) in
        ap Some d ∙ sym (held-found (merge ys) v (merge-ordered ys) h)

-- ---- the pending versions of a table

is_above : (n : Name) (v w : RowVersion) → v.key ≡ n.0 → v.ts ≡ n.1 → stands_before (as_version n) w ≡ true → stands_before v w ≡ true
is_above n v w k t h = ap₂ (λ (key : List ℕ) (ts : ℕ). let u : RowVersion = record { key = key; ts = ts; op = v.op; cells = v.cells } in stands_before u w) k t ∙ h

is_under : (u : RowVersion) (n : Name) (w : RowVersion) → w.key ≡ n.0 → w.ts ≡ n.1 → stands_before u (as_version n) ≡ true → stands_before u w ≡ true
is_under u n w k t h = ap₂ (λ (key : List ℕ) (ts : ℕ). let x : RowVersion = record { key = key; ts = ts; op = w.op; cells = w.cells } in stands_before u x) k t ∙ h

abbrev HasName : (Name → Option RowVersion) → Type 0
HasName f = (n : Name) (v : RowVersion) → f n ≡ Some v → (v.key ≡ n.0) × (v.ts ≡ n.1)

given_above_by : (u : RowVersion) (o : Option RowVersion) (ws : List RowVersion) → ((w : RowVersion) → o ≡ Some w → stands_before u w ≡ true) → Above u ws → Above u (cons_option o ws)
given_above_by u None ws f a = a
given_above_by u (Some w) ws f a = (f w refl, a)

given_above : (f : Name → Option RowVersion) → HasName f → (u : RowVersion) (ns : List Name) → Above u (map as_version ns) → Above u (filter_map f ns)
given_above f h u [] a = tt
given_above f h u (n ∷ ns) a = given_above_by u (f n) (filter_map f ns) (λ w e. let k = h n w e in is_under u n w k.0 k.1 a.0) (given_above f h u ns a.1)

given_ordered_by : (n : Name) (o : Option RowVersion) (ws : List RowVersion) → ((v : RowVersion) → o ≡ Some v → (v.key ≡ n.0) × (v.ts ≡ n.1)) → Above (as_version n) ws → IsTrue (is_ordered ws) → IsTrue (is_ordered (cons_option o ws))
given_ordered_by n None ws f a i = i
given_ordered_by n (Some v) ws f a i = let k = f v refl in ordered-cons v ws (above_as n v ws k.0 k.1 a) i
  where
    above_as : (n : Name) (v : RowVersion) (ws : List RowVersion) → v.key ≡ n.0 → v.ts ≡ n.1 → Above (as_version n) ws → Above v ws
    above_as n v [] k t a = tt
    above_as n v (w ∷ ws) k t a = (is_above n v w k t a.0, above_as n v ws k t a.1)

given_ordered : (f : Name → Option RowVersion) → HasName f → (ns : List Name) → IsTrue (is_ordered (map as_version ns)) → IsTrue (is_ordered (filter_map f ns))
given_ordered f h [] i = refl
given_ordered f h (n ∷ ns) i = given_ordered_by n (f n) (filter_map f ns) (h n) (given_above f h (as_version n) ns (ordered-above (as_version n) (map as_version ns) i)) (given_ordered f h ns (ordered-tail (as_version n) (map as_version ns) i))

-- they are ordered as the names are
pub pending_ordered : (source : List Change) (cat : Catalogue) (names : List Name) (table : ℕ) → IsTrue (names_rise names) → IsTrue (is_ordered (seen_pending source cat names table))
pending_ordered source cat names table h = given_ordered (λ n. option_map (seen cat) (find (λ c. c.table == table && machine.named n c) source))
    (λ n v e. let m = mapped_some (seen cat) (find (λ c. c.table == table && machine.named n c) source) v e in
    let g = find_held (λ c. c.table == table && machine.named n c) source m.0 m.1 in
    let p = and_parts (same_key (change_key m.0) n.0) (m.0.ts == n.1) (and_parts (m.0.table == table) (machine.named n m.0) g.1).1 in
    (ap (λ (w : RowVersion). w.key) (sym m.2) ∙ seen-key cat m.0 ∙ same (change_key m.0) n.0 p.0, ap (λ (w : RowVersion). w.ts) (sym m.2) ∙ seen-ts cat m.0 ∙ eqb-true m.0.ts n.1 p.1)) names (sym (as_versions names) ∙ h)

-- ---- the delta that holds them

-- each is itself where it is read by the carriers again
pub pending_own : (source : List Change) (cat : Catalogue) (names : List Name) (table : ℕ) → IsCatalogue cat → AllByRecursion (IsSound cat) source → coerce_all (carriers cat table) (carriers cat table) (seen_pending source cat names table) ≡ seen_pending source cat names table
pending_own source cat names table is sound =
    let pend = seen_pending source cat names table in
    map_same (coerced (carriers cat table) (carriers cat table)) (λ v. v) (λ v. coerced (carriers cat table) (carriers cat table) v ≡ v) pend (λ v e. e)
    (all_from (λ v. coerced (carriers cat table) (carriers cat table) v ≡ v) pend (λ v h. let f = seen_from cat source names table v h in
    ap (coerced (carriers cat table) (carriers cat table)) f.is ∙ ap (λ (n : ℕ). coerced (carriers cat n) (carriers cat n) (seen cat f.change)) (sym f.of_table) ∙ seen_own cat f.change is (all_at (IsSound cat) source f.change sound f.held) ∙ sym f.is))
    ∙ same_map pend
  where
    same_map : (vs : List RowVersion) → map (λ v. v) vs ≡ vs
    same_map [] = refl
    same_map (v ∷ vs) = ap (λ (l : List RowVersion). v ∷ l) (same_map vs)

pub known_number : (cat : Catalogue) (n : ℕ) (t : Table) → table_numbered cat n ≡ Some t → Contains (table_numbers cat) n
known_number cat n t e =
    let h = find_held (λ (t : Table). t.number == n) cat t e in
    subst (Contains (table_numbers cat)) (eqb-true t.number n h.1) (in_map (λ (t : Table). t.number) cat t h.0)

-- the lists of some tables, without the empty ones
abbrev pub lists_of : Catalogue → (ℕ → List RowVersion) → List (ℕ × List RowVersion)
lists_of cat g = filter not_empty (map (λ n. (n, g n)) (table_numbers cat))

-- what stands in a delta made of them
pub made_part : (cat : Catalogue) (g : ℕ → List RowVersion) (d : TableDelta) → Contains (map (table_delta cat) (lists_of cat g)) d → (n : ℕ) × Contains (table_numbers cat) n × (table_delta cat (n, g n) ≡ d) × (0 < length (g n))
made_part cat g d h =
    let a = from_map (table_delta cat) (lists_of cat g) d h in
    let b = from-filter not_empty (map (λ n. let x : ℕ × List RowVersion = (n, g n) in x) (table_numbers cat)) a.0 a.1 in
    let c = from_map (λ n. let x : ℕ × List RowVersion = (n, g n) in x) (table_numbers cat) a.0 b.0 in
    (c.0, c.1, ap (table_delta cat) c.2 ∙ a.2, subst (λ (x : ℕ × List RowVersion). 0 < length x.1) (sym c.2) (ltb-true 0 (length a.0.1) b.1))

-- its versions of a table are the list's, where that is itself by the carriers
pub made_carried : (cat : Catalogue) (id : ℕ) (g : ℕ → List RowVersion) (table : ℕ) → ((n : ℕ) → coerce_all (carriers cat n) (carriers cat n) (g n) ≡ g n) → ((v : RowVersion) → Contains (g table) v → Contains (table_numbers cat) table)
    → carried_versions cat table (delta_of id cat (lists_of cat g)) ≡ g table
made_carried cat id g table own known = by_found (table_of (delta_of id cat (lists_of cat g)) table) refl
  where
    none_there : (vs : List RowVersion) → g table ≡ vs → find (λ t. t.table == table) (map (table_delta cat) (lists_of cat g)) ≡ None → [] ≡ vs
    none_there [] d e = refl
    none_there (v ∷ vs) d e =
        let h : Contains (g table) v = subst (λ (l : List RowVersion). Contains l v) (sym d) (zero, omega arith, refl) in
        let one : ℕ × List RowVersion = (table, g table) in
        let l : length (g table) ≡ length (v ∷ vs) = ap length d in
        let some : not_empty one ≡ true = lt-ltb 0 (length (g table)) (omega (arith, l)) in
        let i = in_map (table_delta cat) (lists_of cat g) one (in-filter not_empty (map (λ n. let x : ℕ × List RowVersion = (n, g n) in x) (table_numbers cat)) one (in_map (λ n. let x : ℕ × List RowVersion = (n, g n) in x) (table_numbers cat) table (known v h)) some) in
        let f = held_is_found (λ (t : TableDelta). t.table == table) (map (table_delta cat) (lists_of cat g)) (table_delta cat one) i (eq-eqb table table refl) in
        let z : None ≡ Some f.0 = sym e ∙ f.1 in cc

    by_found : (o : Option TableDelta) → find (λ t. t.table == table) (map (table_delta cat) (lists_of cat g)) ≡ o → option_map_or (λ t. coerce_all t.layout (carriers cat table) (versions_in t)) o [] ≡ g table
    by_found None e = none_there (g table) refl e
    by_found (Some d) e =
        let h = find_held (λ (t : TableDelta). t.table == table) (map (table_delta cat) (lists_of cat g)) d e in
        let p = made_part cat g d h.0 in
        let n : p.0 ≡ table = ap (λ (t : TableDelta). t.table) p.2 ∙ eqb-true d.table table h.1 in
        let carry : List RowVersion → List RowVersion = coerce_all (carriers cat p.0) (carriers cat table) in
        ap (λ (t : TableDelta). coerce_all t.layout (carriers cat table) (versions_in t)) (sym p.2) ∙ ap carry (cut-whole (carriers cat p.0) (g p.0)) ∙ ap (λ (m : ℕ). coerce_all (carriers cat m) (carriers cat table) (g m)) n ∙ own table

-- the new delta's versions of a table are the pending ones
pub flushed_carried : (source : List Change) (cat : Catalogue) (id : ℕ) (names : List Name) (table : ℕ) → IsCatalogue cat → AllByRecursion (IsSound cat) source → carried_versions cat table (delta_of id cat (flushed_lists source cat names)) ≡ seen_pending source cat names table
flushed_carried source cat id names table is sound = made_carried cat id (seen_pending source cat names) table (λ n. pending_own source cat names n is sound) (λ v h.
    let f = seen_from cat source names table v h in
    let x = sound_shape cat f.change (all_at (IsSound cat) source f.change sound f.held) in
    known_number cat table x.table (ap (table_numbered cat) (sym f.of_table) ∙ x.known))
