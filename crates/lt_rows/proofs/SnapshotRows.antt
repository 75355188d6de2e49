-- The present rows are the snapshot's.
use Rattle.std.proofs.Common.{Bool, List, [], ap, ap₂, cond, false, refl, subst, sym, true, ℕ, ◌∙◌, ◌∷◌, ◌++◌, ◌≡◌, inl, inr}
use Rattle.std.specs.Prelude.{None, Option, Some, filter_map, map, option_and_then, option_map, unwrap_or, ◌⊎◌}
use Rattle.std.specs.BTreeMap.{is_at}
use Rattle.std.specs.List.{AllByRecursion, cons_option}
use Rattle.std.specs.Option.{option_map_or}
use Rattle.std.specs.Ordering.{is_lt}
use Rattle.lt_terms.specs.Value.{Value, null_value}
use Rattle.lt_terms.specs.Conversion.{conv}
use Rattle.lt_terms.specs.Key.{bytes_cmp, part_value, same_key}
use Rattle.lt_tables.specs.Row.{AreKeyed}
use Rattle.lt_terms.specs.Layout.{setting}
use Rattle.lt_terms.specs.Log.{Change}
use Rattle.lt_tables.specs.Row.{Entry, Row, entry_of, keys_of, read_row, row_at, snapshot}
use Rattle.lt_tables.specs.Schema.{Catalogue, Column, Table, column_fallback, fallback, fallback_in, table_numbered}
use Rattle.lt_lemmas.proofs.RowLemmas.{reads_in_order}
use Rattle.lt_lemmas.proofs.SnapshotLaws.{AreOver, AreRising, IsNamed, Named, Needs, all_named, changed_or_found, entry_at, has_key, keys_all, keys_rising, named_once, no_row, or_left, or_right, same_map}
use Rattle.lt_rows.specs.Present.{Present, Rows, full_row, present_by, read_set, reading_of}
use Rattle.lt_rows.specs.Scans.{RiseByKey}
use Rattle.lt_rows.proofs.Entries.{Over, Rises, all_found}
use Rattle.lt_rows.proofs.PresentLaws.{Good, IsNamedRow, Tells, all_good, bytes, follows, found}

-- ---- keys with their parts

abbrev pub name_of : List ℕ × Present → Named
name_of e = (e.0, e.1.0)

abbrev pub names : Rows → List Named
names rows = map name_of rows

names_over : (a : List ℕ) (es : Rows) → Over bytes_cmp a es → AreOver a (names es)
names_over a [] v = tt
names_over a (e ∷ es) v = (ap is_lt v.0, names_over a es v.1)

names_rising : (es : Rows) → Rises bytes_cmp es → AreRising (names es)
names_rising [] r = tt
names_rising (e ∷ es) r = (names_over e.0 es r.0, names_rising es r.1)

all_names : (cat : Catalogue) (table : ℕ) (es : Rows) → AllByRecursion (IsNamedRow cat table) es → AllByRecursion (IsNamed cat table) (names es)
all_names cat table [] a = tt
all_names cat table (e ∷ es) a = (a.0, all_names cat table es a.1)

key_found_by : (key : List ℕ) (e : List ℕ × Present) (es : Rows) (b : Bool) → is_at (bytes_cmp key) e.0 ≡ b → (found key es ≡ None) ⊎ (has_key key (names es) ≡ true) → (found key (e ∷ es) ≡ None) ⊎ (has_key key (names (e ∷ es)) ≡ true)
key_found_by key e es true d h = inr (or_left (same_key key e.0) (has_key key (names es)) d)
key_found_by key e es false d h = elim h [
  | inl n ↦ inl (ap (λ (b : Bool). cond b (Some e.1) (found key es)) d ∙ n)
  | inr k ↦ inr (or_right (same_key key e.0) (has_key key (names es)) k)
]

key_found : (key : List ℕ) (es : Rows) → (found key es ≡ None) ⊎ (has_key key (names es) ≡ true)
key_found key [] = inl refl
key_found key (e ∷ es) = key_found_by key e es (is_at (bytes_cmp key) e.0) refl (key_found key es)

-- ---- what is given for each key

-- a look-up tells the row of each key of the table
abbrev pub AllTold : Catalogue → ℕ → List Change → ℕ → Rows → Type 0
AllTold cat table source at rows = (x : Named) → IsNamed cat table x → Tells (found x.0 rows) (row_at source x.0 at)

none_told : (o : Option Present) (r : Row) → Tells o r → o ≡ None → r ≡ None
none_told None None h e = refl
none_told None (Some set) h e = absurd h
none_told (Some p) r h e = cc

need_name : (cat : Catalogue) (t : Table) (columns : List Column) (source : List Change) (at : ℕ) (rows : Rows) → AllTold cat t.number source at rows → (x : Named) → IsNamed cat t.number x → Needs (entry_at t columns source at) (names rows) x
need_name cat t columns source at rows told x n = elim (key_found x.0 rows) [
  | inl h ↦ inl (ap (option_map (entry_of t columns x)) (none_told (found x.0 rows) (row_at source x.0 at) (told x n) h))
  | inr h ↦ inr h
]

need_names : (cat : Catalogue) (t : Table) (columns : List Column) (source : List Change) (at : ℕ) (rows : Rows) → AllTold cat t.number source at rows → (xs : List Named) → AllByRecursion (IsNamed cat t.number) xs
    → AllByRecursion (Needs (entry_at t columns source at) (names rows)) xs
need_names cat t columns source at rows told [] a = tt
need_names cat t columns source at rows told (x ∷ xs) a = (need_name cat t columns source at rows told x a.0, need_names cat t columns source at rows told xs a.1)

need_row : (cat : Catalogue) (t : Table) (columns : List Column) (source : List Change) (at : ℕ) → AreKeyed cat source → (x : Named) → IsNamed cat t.number x → Needs (entry_at t columns source at) (keys_of t.number source) x
need_row cat t columns source at k x n = elim (changed_or_found cat t.number x source [] n k) [
  | inl e ↦ inl (ap (option_map (entry_of t columns x)) (no_row source x.0 at e))
  | inr h ↦ inr h
]

need_rows : (cat : Catalogue) (t : Table) (columns : List Column) (source : List Change) (at : ℕ) → AreKeyed cat source → (xs : List Named) → AllByRecursion (IsNamed cat t.number) xs
    → AllByRecursion (Needs (entry_at t columns source at) (keys_of t.number source)) xs
need_rows cat t columns source at k [] a = tt
need_rows cat t columns source at k (x ∷ xs) a = (need_row cat t columns source at k x a.0, need_rows cat t columns source at k xs a.1)

-- ---- how a row reads

-- a column reads as what was set of it, or as its default, at its kind
read_by : (o : Option Value) (d : Value) (c : Column) → option_map_or (λ v. conv v c.kind) o (conv d c.kind) ≡ conv (unwrap_or o d) c.kind
read_by None d c = refl
read_by (Some v) d c = refl

default_is : (cat : Catalogue) (t : Table) (n : ℕ) → table_numbered cat t.number ≡ Some t → unwrap_or (fallback_in cat t.number n) null_value ≡ fallback t n
default_is cat t n e = ap (λ (o : Option Table). unwrap_or (option_and_then (λ t. column_fallback t n) o) null_value) e

read_one : (cat : Catalogue) (t : Table) (c : Column) (was set : List (ℕ × Value)) → table_numbered cat t.number ≡ Some t → setting c.number was ≡ setting c.number set
    → read_set was (reading_of cat t.number c) ≡ conv (unwrap_or (setting c.number set) (fallback t c.number)) c.kind
read_one cat t c was set e h =
    read_by (setting c.number was) (unwrap_or (fallback_in cat t.number c.number) null_value) c
    ∙ ap₂ (λ (o : Option Value) (d : Value). conv (unwrap_or o d) c.kind) h (default_is cat t c.number e)

reads : (cat : Catalogue) (t : Table) (columns : List Column) (was set : List (ℕ × Value)) → table_numbered cat t.number ≡ Some t → ((n : ℕ) → setting n was ≡ setting n set)
    → map (read_set was) (map (reading_of cat t.number) columns) ≡ read_row t columns set
reads cat t [] was set e h = refl
reads cat t (c ∷ cs) was set e h = ap₂ (λ (v : Value) (vs : List Value). v ∷ vs) (read_one cat t c was set e (h c.number)) (reads cat t cs was set e h)

abbrev pub shown_entry : Catalogue → Table → List Column → List ℕ × Present → Entry
shown_entry cat t columns e = record { key = e.0; row = full_row cat t.number columns e }

entry_by : (cat : Catalogue) (t : Table) (columns : List Column) (e : List ℕ × Present) (r : Row) → table_numbered cat t.number ≡ Some t → Tells (Some e.1) r → option_map (entry_of t columns (name_of e)) r ≡ Some (shown_entry cat t columns e)
entry_by cat t columns e None i h = absurd h
entry_by cat t columns e (Some set) i h = ap (λ (vs : List Value). Some (record { key = e.0; row = map part_value e.1.0 ++ vs })) (sym (reads cat t columns e.1.1 set i h))

shown_entries : (cat : Catalogue) (t : Table) (columns : List Column) (source : List Change) (at : ℕ) (rows : Rows) → table_numbered cat t.number ≡ Some t → AllTold cat t.number source at rows
    → (es : Rows) → AllByRecursion (IsNamedRow cat t.number) es → AllByRecursion (λ e. found e.0 rows ≡ Some e.1) es → filter_map (entry_at t columns source at) (names es) ≡ map (shown_entry cat t columns) es
shown_entries cat t columns source at rows i told [] a h = refl
shown_entries cat t columns source at rows i told (e ∷ es) a h =
    ap₂ cons_option (entry_by cat t columns e (row_at source e.0 at) i (subst (λ (o : Option Present). Tells o (row_at source e.0 at)) h.0 (told (name_of e) a.0))) (shown_entries cat t columns source at rows i told es a.1 h.1)

snapshot_by : (cat : Catalogue) (t : Table) (columns : List Column) (source : List Change) (at : ℕ) (rows : Rows) → table_numbered cat t.number ≡ Some t → AreKeyed cat source → AllTold cat t.number source at rows → Good cat t.number rows
    → snapshot source t columns at ≡ map (shown_entry cat t columns) rows
unfolding snapshot
snapshot_by cat t columns source at rows i k told g =
    let a = keys_all (IsNamed cat t.number) t.number [] source tt (all_named cat t.number source k) in
    let b = all_names cat t.number rows g.named in
    same_map (IsNamed cat t.number) (entry_at t columns source at) (entry_at t columns source at) (named_once cat t.number) (λ x p. refl) (keys_of t.number source) (names rows) (keys_rising t.number [] source tt) (names_rising rows g.rises)
    a b (need_names cat t columns source at rows told (keys_of t.number source) a) (need_rows cat t columns source at k (names rows) b)
    ∙ shown_entries cat t columns source at rows i told rows g.named (all_found bytes_cmp bytes rows g.rises)

all_told : (cat : Catalogue) (table : ℕ) (source : List Change) (at : ℕ) → AreKeyed cat source → RiseByKey source → AllTold cat table source at (present_by table at [] source)
all_told cat table source at k rise x n = subst (λ (r : Row). Tells (found x.0 (present_by table at [] source)) r) (sym (reads_in_order source x.0 at (rise x.0)))
    (follows cat table at x source n k [] None (record { rises = tt; named = tt }) tt)

pub snapshot_is : (cat : Catalogue) (t : Table) (columns : List Column) (source : List Change) (at : ℕ) → table_numbered cat t.number ≡ Some t → AreKeyed cat source → RiseByKey source
    → snapshot source t columns at ≡ map (shown_entry cat t columns) (present_by t.number at [] source)
snapshot_is cat t columns source at i k rise = snapshot_by cat t columns source at (present_by t.number at [] source) i k (all_told cat t.number source at k rise)
    (all_good cat t.number at [] source k (record { rises = tt; named = tt }))

pub present_good : (cat : Catalogue) (table at : ℕ) (source : List Change) → AreKeyed cat source → Good cat table (present_by table at [] source)
present_good cat table at source k = all_good cat table at [] source k (record { rises = tt; named = tt })
