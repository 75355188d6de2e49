-- Tables by rising number: which one a version belongs to, and where a fresh one goes.
use Rattle.std.proofs.Common.{List, None, Option, Some, [], ap, arith, cond, false, length, lt-ltb, ltb-true, refl, set, suc, sym, take, true, zero, ℕ, ◌++◌, ◌<◌, ◌≤◌, ◌∙◌, ◌∷◌, ◌≡◌}
use Rattle.std.specs.Prelude.{IsTrue, find, insert, is_some, map, nat_lt, option_and_then, option_map, slice_get, unwrap_or, ◌==◌}
use Rattle.std.specs.List.{AllByRecursion}
use Rattle.std.specs.Option.{option_map_or}
use Rattle.std.proofs.lemmas.Bool.{and_parts, eq-eqb, eqb-false, eqb-true, false≢true}
use Rattle.std.proofs.lemmas.Option.{none-some, same_Some}
use Rattle.lt_terms.specs.Value.{Value, null_value, rises_above, rises_strictly}
use Rattle.lt_tables.specs.Schema.{Catalogue, Column, Registered, SchemaVersion, Table, carrier, column_fallback, column_numbered, fallback_in, has_column, joined_all, kinds_given, live_version, new_table, table_numbered, versions_of, with_version}
use Rattle.lt_schema.specs.Catalogues.{IsPlace, is_at}
use Rattle.lt_schema.specs.Lookups.{declared}

-- ---- look-ups through a table's versions

carrier_by : (o : Option Table) (n : ℕ) → option_and_then (λ t. carrier t n) o ≡ joined_all (kinds_given (option_map_or (λ t. t.versions) o []) n)
unfolding carrier
carrier_by None n = refl
carrier_by (Some t) n = refl

pub carrier_is : (cat : Catalogue) (number n : ℕ) → option_and_then (λ t. carrier t n) (table_numbered cat number) ≡ joined_all (kinds_given (versions_of cat number) n)
carrier_is cat number n = carrier_by (table_numbered cat number) n

abbrev given_at : ℕ → Registered → Value
given_at n r = unwrap_or (option_and_then (λ c. c.fallback) (column_numbered r.columns n)) null_value

abbrev given_for : Column → Value
given_for c = unwrap_or c.fallback null_value

given_by : (r : Registered) (found : Option Registered) (n : ℕ) (o : Option Column) → column_numbered r.columns n ≡ o → option_map (given_at n) found ≡ option_map given_for (option_and_then (λ q. column_numbered q.columns n) found)
    → option_map (given_at n) (cond (is_some o) (Some r) found) ≡ option_map given_for (option_and_then (λ q. column_numbered q.columns n) (cond (is_some o) (Some r) found))
given_by r found n None e ih = ih
given_by r found n (Some c) e ih = ap (λ p. Some (unwrap_or (option_and_then (λ c. c.fallback) p) null_value)) e ∙ sym (ap (option_map given_for) e)

fallback_by : (r : Registered) (rs : List Registered) (n : ℕ) (o : Option Column) → column_numbered r.columns n ≡ o → option_map (given_at n) (find (has_column n) rs) ≡ option_map given_for (declared rs n)
    → option_map (given_at n) (find (has_column n) (r ∷ rs)) ≡ option_map given_for (declared (r ∷ rs) n)
fallback_by r rs n o e ih =
    let found = find (has_column n) rs in
    let column = λ (q : Registered). column_numbered q.columns n in
    let left : option_map (given_at n) (find (has_column n) (r ∷ rs)) ≡ option_map (given_at n) (cond (is_some o) (Some r) found) = ap (λ p. option_map (given_at n) (cond (is_some p) (Some r) found)) e in
    let right : option_map given_for (declared (r ∷ rs) n) ≡ option_map given_for (option_and_then column (cond (is_some o) (Some r) found)) = ap (λ p. option_map given_for (option_and_then column (cond (is_some p) (Some r) found))) e in
    left ∙ given_by r found n o e ih ∙ sym right

fallback_of : (rs : List Registered) (n : ℕ) → option_map (given_at n) (find (has_column n) rs) ≡ option_map given_for (declared rs n)
fallback_of [] n = refl
fallback_of (r ∷ rs) n = fallback_by r rs n (column_numbered r.columns n) refl (fallback_of rs n)

fallback_in_by : (o : Option Table) (n : ℕ) → option_and_then (λ t. column_fallback t n) o ≡ option_map given_for (declared (option_map_or (λ t. t.versions) o []) n)
fallback_in_by None n = refl
fallback_in_by (Some t) n = fallback_of t.versions n

pub fallback_is : (cat : Catalogue) (number n : ℕ) → fallback_in cat number n ≡ option_map (λ c. unwrap_or c.fallback null_value) (declared (versions_of cat number) n)
fallback_is cat number n = fallback_in_by (table_numbered cat number) n

-- ---- the place of a number

lower_apart : (m n : ℕ) → m < n → m == n ≡ false
lower_apart m n lt = grind arith

higher_apart : (m n : ℕ) → n < m → m == n ≡ false
higher_apart m n lt = grind arith

not_lower : (m n : ℕ) → m < n → nat_lt n m ≡ false
not_lower m n lt = grind arith

abbrev with_columns : Table → SchemaVersion → Table
with_columns t v = record t { versions = t.versions ++ live_version v.columns ∷ [] }

-- a table with a lower number is passed over
passed : (u : Table) (cat : Catalogue) (v : SchemaVersion) → u.number < v.number → table_numbered (u ∷ cat) v.number ≡ table_numbered cat v.number
passed u cat v lt = ap (λ b. cond b (Some u) (table_numbered cat v.number)) (lower_apart u.number v.number lt)

skipped : (u : Table) (cat : Catalogue) (v : SchemaVersion) → u.number < v.number → with_version (u ∷ cat) v ≡ u ∷ with_version cat v
skipped u cat v lt =
    ap (λ b. cond b (with_columns u v ∷ cat) (cond (nat_lt v.number u.number) (new_table v ∷ u ∷ cat) (u ∷ with_version cat v))) (lower_apart u.number v.number lt)
    ∙ ap (λ b. cond b (new_table v ∷ u ∷ cat) (u ∷ with_version cat v)) (not_lower u.number v.number lt)

pub added_there : (cat : Catalogue) (v : SchemaVersion) (at : ℕ) (t : Table) → AllByRecursion (λ u. u.number < v.number) (take at cat) → slice_get cat at ≡ Some t → t.number ≡ v.number
    → (with_version cat v ≡ set cat at (with_columns t v)) × (table_numbered cat v.number ≡ Some t)
added_there [] v at t lower got same = absurd (none-some t got)
added_there (u ∷ cat) v zero t lower got same =
    let it : u ≡ t = same_Some u t got in
    let here : u.number == v.number ≡ true = eq-eqb u.number v.number (ap (λ (x : Table). x.number) it ∙ same) in (
      ap (λ b. cond b (with_columns u v ∷ cat) (cond (nat_lt v.number u.number) (new_table v ∷ u ∷ cat) (u ∷ with_version cat v))) here ∙ ap (λ x. with_columns x v ∷ cat) it,
      ap (λ b. cond b (Some u) (table_numbered cat v.number)) here ∙ ap Some it,
    )
added_there (u ∷ cat) v (suc at) t lower got same =
    let more = added_there cat v at t lower.1 got same in
    (skipped u cat v lower.0 ∙ ap (λ ts. u ∷ ts) more.0, passed u cat v lower.0 ∙ more.1)

pub added_fresh : (cat : Catalogue) (v : SchemaVersion) (at : ℕ) → AllByRecursion (λ u. u.number < v.number) (take at cat) → at ≤ length cat → ((t : Table) → slice_get cat at ≡ Some t → v.number < t.number)
    → with_version cat v ≡ insert cat at (new_table v)
added_fresh [] v zero lower within past = refl
added_fresh [] v (suc at) lower within past = absurd (omega arith)
added_fresh (u ∷ cat) v zero lower within past =
    let lt : v.number < u.number = past u refl in
    ap (λ b. cond b (with_columns u v ∷ cat) (cond (nat_lt v.number u.number) (new_table v ∷ u ∷ cat) (u ∷ with_version cat v))) (higher_apart u.number v.number lt)
    ∙ ap (λ b. cond b (new_table v ∷ u ∷ cat) (u ∷ with_version cat v)) (lt-ltb v.number u.number lt)
added_fresh (u ∷ cat) v (suc at) lower within past = skipped u cat v lower.0 ∙ ap (λ ts. u ∷ ts) (added_fresh cat v at lower.1 (omega arith) past)

pub unknown : (cat : Catalogue) (n low : ℕ) → IsTrue (rises_above low (map (λ t. t.number) cat)) → n ≤ low → table_numbered cat n ≡ None
unknown [] n low rise le = refl
unknown (t ∷ cat) n low rise le =
    let parts = and_parts (nat_lt low t.number) (rises_above t.number (map (λ t. t.number) cat)) rise in
    let above : low < t.number = ltb-true low t.number parts.0 in
    ap (λ b. cond b (Some t) (table_numbered cat n)) (higher_apart t.number n (omega (arith, above))) ∙ unknown cat n t.number parts.1 (omega (arith, above))

pub rise_behind : (low : ℕ) (ns : List ℕ) → IsTrue (rises_above low ns) → IsTrue (rises_strictly ns)
rise_behind low [] rise = refl
rise_behind low (n ∷ ns) rise = (and_parts (nat_lt low n) (rises_above n ns) rise).1

-- no table has the number where the one at its place has a greater one
pub unknown_at : (cat : Catalogue) (v : SchemaVersion) (at : ℕ) → IsTrue (rises_strictly (map (λ t. t.number) cat)) → AllByRecursion (λ u. u.number < v.number) (take at cat) → at ≤ length cat → ((t : Table) → slice_get cat at ≡ Some t → v.number < t.number)
    → table_numbered cat v.number ≡ None
unknown_at [] v at rise lower within past = refl
unknown_at (u ∷ cat) v zero rise lower within past =
    let lt : v.number < u.number = past u refl in
    ap (λ b. cond b (Some u) (table_numbered cat v.number)) (higher_apart u.number v.number lt) ∙ unknown cat v.number u.number rise (omega (arith, lt))
unknown_at (u ∷ cat) v (suc at) rise lower within past = passed u cat v lower.0 ∙ unknown_at cat v at (rise_behind u.number (map (λ t. t.number) cat) rise) lower.1 (omega arith) past

there_by : (o : Option Table) (n : ℕ) → option_map_or (λ t. t.number == n) o false ≡ true → (t : Table) × (o ≡ Some t) × (t.number ≡ n)
there_by None n e = absurd (false≢true e)
there_by (Some t) n e = (t, refl, eqb-true t.number n e)

-- the one at the place has the number
pub there : (cat : Catalogue) (at n : ℕ) → is_at cat at n ≡ true → (t : Table) × (slice_get cat at ≡ Some t) × (t.number ≡ n)
there cat at n e = there_by (slice_get cat at) n e

-- it has not, and is past it
pub past_other : (cat : Catalogue) (n at : ℕ) → IsPlace cat n at → is_at cat at n ≡ false → (t : Table) → slice_get cat at ≡ Some t → n < t.number
past_other cat n at place other t got =
    let differs : t.number == n ≡ false = sym (ap (λ o. option_map_or (λ t. t.number == n) o false) got) ∙ other in
    omega (arith, place.stops t got, eqb-false t.number n differs)
