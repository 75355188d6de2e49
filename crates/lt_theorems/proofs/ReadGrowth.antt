-- Under a longer catalogue a registered version reads as it did: its columns and their defaults stay.
use Rattle.std.proofs.Common.{Bool, List, [], ap, ap₂, cond, eq-eqb, false, refl, subst, suc, sym, true, zero, ℕ, ◌++◌, ◌-◌, ◌∙◌, ◌∷◌, ◌≡◌}
use Rattle.std.specs.Prelude.{IsTrue, None, Option, Some, filter_map, find, is_some, map, option_and_then, option_map, unwrap_or, ◌==◌, ◌||◌}
use Rattle.std.specs.List.{AllByRecursion, cons_option, list_any}
use Rattle.std.proofs.lemmas.Bool.{false≢true}
use Rattle.lt_terms.specs.Value.{Value, null_value}
use Rattle.lt_terms.specs.Conversion.{conv}
use Rattle.lt_terms.specs.Layout.{setting}
use Rattle.lt_terms.specs.Key.{KeyPart, part_value}
use Rattle.lt_terms.specs.Log.{Change}
use Rattle.lt_tables.specs.Schema.{Became, Catalogue, Column, IsCatalogue, KeyColumn, Registered, Table, as_it_was, change_at, column_fallback, column_numbered, fallback, has_column, live_version, registered, retired_version, table_numbered, then_added, then_retired, with_retired}
use Rattle.lt_tables.specs.Row.{Entry, entry_of, keys_of, read_row, row_at, snapshot}
use Rattle.lt_tables.specs.Query.{Query, answer}
use Rattle.lt_lemmas.proofs.CatalogueLaws.{numbers_rise, retired_where}
use Rattle.lt_lemmas.proofs.ListFacts.{all_from}
use Rattle.lt_laws.proofs.VersionGrowth.{any_front, found_added, widens_where, with_added, with_columns}
use Rattle.lt_laws.proofs.CatalogueLaws.{became_lawful, became_stays, find_retired}
use Rattle.lt_laws.proofs.DurableFacts.{got_is_held}
use Rattle.lt_laws.proofs.ListFacts.{held_is_found}
use Rattle.lt_laws.proofs.ScanLaws.{any_of}
use Rattle.lt_laws.proofs.CoerceLaws.{map_same}

-- ---- the defaults of a table's columns stay

-- a table that grew has the number and the key, and each column of it the default
record ReadsOn (t u : Table) : Type 0 where
  number : u.number ≡ t.number
  key : u.key ≡ t.key
  has : (n : ℕ) → IsTrue (list_any (has_column n) t.versions) → IsTrue (list_any (has_column n) u.versions)
  default : (n : ℕ) → IsTrue (list_any (has_column n) t.versions) → column_fallback u n ≡ column_fallback t n

reads_itself : (t : Table) → ReadsOn t t
reads_itself t = record { number = refl; key = refl; has = λ n h. h; default = λ n h. refl }

reads_then : (t u w : Table) → ReadsOn t u → ReadsOn u w → ReadsOn t w
reads_then t u w a b = record {
  number = b.number ∙ a.number;
  key = b.key ∙ a.key;
  has = λ n h. b.has n (a.has n h);
  default = λ n h. b.default n (a.has n h) ∙ a.default n h;
}

abbrev given_by : ℕ → Registered → Value
given_by n r = unwrap_or (option_and_then (λ c. c.fallback) (column_numbered r.columns n)) null_value

given_retired_by : (n : ℕ) (r : Registered) (o : Option Registered) (b : Bool) → option_map (given_by n) (cond b (Some (retired_version r)) o) ≡ option_map (given_by n) (cond b (Some r) o)
given_retired_by n r o true = refl
given_retired_by n r o false = refl

given_later : (n : ℕ) (r : Registered) (o p : Option Registered) (b : Bool) → option_map (given_by n) o ≡ option_map (given_by n) p → option_map (given_by n) (cond b (Some r) o) ≡ option_map (given_by n) (cond b (Some r) p)
given_later n r o p true e = refl
given_later n r o p false e = e

given_retired : (n k : ℕ) (rs : List Registered) → option_map (given_by n) (find (has_column n) (change_at retired_version k rs)) ≡ option_map (given_by n) (find (has_column n) rs)
given_retired n k [] = refl
given_retired n zero (r ∷ rs) = given_retired_by n r (find (has_column n) rs) (has_column n r)
given_retired n (suc k) (r ∷ rs) = given_later n r (find (has_column n) (change_at retired_version k rs)) (find (has_column n) rs) (has_column n r) (given_retired n k rs)

found_by : {A : Type 0} (p : A → Bool) (x : A) (xs ys : List A) (b : Bool) → b || list_any p xs ≡ true → (list_any p xs ≡ true → find p (xs ++ ys) ≡ find p xs) → cond b (Some x) (find p (xs ++ ys)) ≡ cond b (Some x) (find p xs)
found_by p x xs ys true h f = refl
found_by p x xs ys false h f = f h

-- what some of the first items pass is found among them
found_first : {A : Type 0} (p : A → Bool) (xs ys : List A) → list_any p xs ≡ true → find p (xs ++ ys) ≡ find p xs
found_first p [] ys h = absurd (false≢true h)
found_first p (x ∷ xs) ys h = found_by p x xs ys (p x) h (found_first p xs ys)

reads_retired : (b : Bool) (v : ℕ) (t : Table) → ReadsOn t (cond b (with_retired v t) t)
reads_retired true v t = record { number = refl; key = refl; has = (widens_where true v t).stays; default = λ n h. given_retired n (v - 1) t.versions }
reads_retired false v t = reads_itself t

reads_columns : (t : Table) (columns : List Column) → ReadsOn t (with_columns t columns)
reads_columns t columns = record {
  number = refl;
  key = refl;
  has = λ n h. any_front (has_column n) t.versions (live_version columns ∷ []) h;
  default = λ n h. ap (option_map (given_by n)) (found_first (has_column n) t.versions (live_version columns ∷ []) h);
}

reads_added : (b : Bool) (t : Table) (columns : List Column) → ReadsOn t (cond b (with_columns t columns) t)
reads_added true t columns = reads_columns t columns
reads_added false t columns = reads_itself t

-- ---- the tables of a catalogue that grew

became_reads : (cat wide : Catalogue) → IsCatalogue cat → Became cat wide → (n : ℕ) (t : Table) → table_numbered cat n ≡ Some t → (u : Table) × (table_numbered wide n ≡ Some u) × ReadsOn t u
became_reads cat _ is as_it_was n t f = (t, f, reads_itself t)
became_reads cat _ is (then_added c v b e) n t f = let x = became_reads cat c is b n t f in
    (with_added v x.0, found_added v c n x.0 (numbers_rise c (became_lawful cat c is b)) x.1, reads_then t x.0 (with_added v x.0) x.2 (reads_added (x.0.number == v.number) x.0 v.columns))
became_reads cat _ is (then_retired c number v b e) n t f = let x = became_reads cat c is b n t f in
    (retired_where number v x.0, find_retired c number v n ∙ ap (option_map (retired_where number v)) x.1, reads_then t x.0 (retired_where number v x.0) x.2 (reads_retired (x.0.number == number) v x.0))

-- a registered version's columns are the table's
has_columns : (t : Table) (v : ℕ) (r : Registered) → registered t v ≡ Some r → AllByRecursion (λ c. IsTrue (list_any (has_column c.number) t.versions)) r.columns
has_columns t zero r e = cc
has_columns t (suc m) r e = all_from (λ c. IsTrue (list_any (has_column c.number) t.versions)) r.columns (λ c h.
    let x = held_is_found (λ d. d.number == c.number) r.columns c h (eq-eqb c.number c.number refl) in
    any_of (has_column c.number) t.versions r (got_is_held t.versions m r e) (ap is_some x.1))

-- ---- so it reads rows, snapshots and answers as it did

row_as : (t u : Table) (columns : List Column) (set : List (ℕ × Value)) → ReadsOn t u → AllByRecursion (λ c. IsTrue (list_any (has_column c.number) t.versions)) columns → read_row u columns set ≡ read_row t columns set
row_as t u columns set a h = map_same (λ c. conv (unwrap_or (setting c.number set) (fallback u c.number)) c.kind) (λ c. conv (unwrap_or (setting c.number set) (fallback t c.number)) c.kind) (λ c. IsTrue (list_any (has_column c.number) t.versions)) columns
    (λ c k. ap (λ (o : Option Value). conv (unwrap_or (setting c.number set) (unwrap_or o null_value)) c.kind) (a.default c.number k)) h

entries_as : (source : List Change) (t u : Table) (columns : List Column) (at : ℕ) (keys : List (List ℕ × List KeyPart)) → ReadsOn t u → AllByRecursion (λ c. IsTrue (list_any (has_column c.number) t.versions)) columns
    → filter_map (λ key. option_map (entry_of u columns key) (row_at source key.0 at)) keys ≡ filter_map (λ key. option_map (entry_of t columns key) (row_at source key.0 at)) keys
entries_as source t u columns at [] a h = refl
entries_as source t u columns at (key ∷ keys) a h = ap₂ (λ (o : Option Entry) (es : List Entry). cons_option o es) (one (row_at source key.0 at)) (entries_as source t u columns at keys a h)
  where
    one : (o : Option (List (ℕ × Value))) → option_map (entry_of u columns key) o ≡ option_map (entry_of t columns key) o
    one None = refl
    one (Some set) = ap (λ (vs : List Value). let e : Entry = record { key = key.0; row = map part_value key.1 ++ vs } in Some e) (row_as t u columns set a h)

snapshot_as : (source : List Change) (t u : Table) (columns : List Column) (at : ℕ) → ReadsOn t u → AllByRecursion (λ c. IsTrue (list_any (has_column c.number) t.versions)) columns → snapshot source u columns at ≡ snapshot source t columns at
unfolding snapshot
snapshot_as source t u columns at a h =
    entries_as source t u columns at (keys_of u.number source) a h
    ∙ ap (λ (n : ℕ). filter_map (λ key. option_map (entry_of t columns key) (row_at source key.0 at)) (keys_of n source)) a.number

answer_as : (t u : Table) (columns : List Column) (q : Query) (es : List Entry) → ReadsOn t u → answer u columns q es ≡ answer t columns q es
unfolding answer
answer_as t u columns q es a = ap₂ (λ (n : ℕ) (k : List KeyColumn). answer (record t { number = n; key = k }) columns q es) a.number a.key

pub reads_wider : (cat wide : Catalogue) (n v : ℕ) (t : Table) (r : Registered) → IsCatalogue cat → Became cat wide → table_numbered cat n ≡ Some t → registered t v ≡ Some r
    → (u : Table) × (p : Registered) × (table_numbered wide n ≡ Some u) × (registered u v ≡ Some p) × ((source : List Change) (at : ℕ) → snapshot source u p.columns at ≡ snapshot source t r.columns at)
    × ((q : Query) (es : List Entry) → answer u p.columns q es ≡ answer t r.columns q es)
reads_wider cat wide n v t r is b f g =
    let x = became_reads cat wide is b n t f in
    let s = (became_stays cat wide is b).again n v t r f g in
    let d : Some x.0 ≡ Some s.0 = sym x.1 ∙ s.2 in
    let same_table : x.0 ≡ s.0 = cc in
    let a : ReadsOn t s.0 = subst (ReadsOn t) same_table x.2 in (
      s.0,
      s.1,
      s.2,
      s.3,
      (λ source at. ap (λ (cs : List Column). snapshot source s.0 cs at) s.5 ∙ snapshot_as source t s.0 r.columns at a (has_columns t v r g)),
      (λ q es. ap (λ (cs : List Column). answer s.0 cs q es) s.5 ∙ answer_as t s.0 r.columns q es a),
    )
