-- A snapshot goes by the rows alone: where two lists of changes make the same rows, they make the same snapshots and answers.
use Rattle.std.proofs.Common.{Bool, List, [], ap, cond, false, inl, inr, refl, sym, true, ℕ, ◌∙◌, ◌∷◌, ◌≡◌}
use Rattle.std.specs.Prelude.{None, Option, Some, filter, filter_map, if◌then◌else◌, map, option_map, ◌&&◌}
use Rattle.std.specs.List.{AllByRecursion, cons_option}
use Rattle.lt_terms.specs.Log.{Change}
use Rattle.lt_terms.specs.Key.{in_range}
use Rattle.lt_tables.specs.Row.{AreKeyed, Entry, Row, entry_of, keys_of, row_at, snapshot}
use Rattle.lt_tables.specs.Schema.{Catalogue, Column, Table, key_kinds}
use Rattle.lt_tables.specs.Query.{Query, answer, first_rows, full_columns, holds, interval, is_true, pick, places}
use Rattle.lt_lemmas.proofs.SnapshotLaws.{IsNamed, Named, Needs, all_named, changed_or_found, entry_at, keys_all, keys_rising, named_once, no_row, same_map}

-- ---- what is given for the keys within some

abbrev given : {E : Type 0} → (List ℕ → Bool) → (Named → Option E) → Named → Option E
given within f x = if within x.0 then f x else None

abbrev pub SameRows : (List ℕ → Bool) → List Change → List Change → ℕ → Type 0
SameRows within source other t = (key : List ℕ) → within key ≡ true → row_at source key t ≡ row_at other key t

alike_by : (b : Bool) (o p : Option Entry) → (b ≡ true → o ≡ p) → cond b o None ≡ cond b p None
alike_by true o p h = h refl
alike_by false o p h = refl

needs_by : (within : List ℕ → Bool) (f : Named → Option Entry) (x : Named) (ks : List Named) (b : Bool) → within x.0 ≡ b → (b ≡ true → Needs f ks x) → Needs (given within f) ks x
needs_by within f x ks true e h = elim (h refl) [ inl n ↦ inl (ap (λ b. cond b (f x) None) e ∙ n) | inr k ↦ inr k ]
needs_by within f x ks false e h = inl (ap (λ b. cond b (f x) None) e)

need_one : (cat : Catalogue) (table : Table) (columns : List Column) (within : List ℕ → Bool) (source other : List Change) (t : ℕ) (x : Named) → SameRows within source other t → AreKeyed cat other
    → IsNamed cat table.number x → Needs (given within (entry_at table columns source t)) (keys_of table.number other) x
need_one cat table columns within source other t x rows keyed named = needs_by within (entry_at table columns source t) x (keys_of table.number other) (within x.0) refl
    (λ b. elim (changed_or_found cat table.number x other [] named keyed) [
      | inl e ↦ inl (ap (option_map (entry_of table columns x)) (rows x.0 b ∙ no_row other x.0 t e))
      | inr k ↦ inr k
    ])

need_all : (cat : Catalogue) (table : Table) (columns : List Column) (within : List ℕ → Bool) (source other : List Change) (t : ℕ) → SameRows within source other t → AreKeyed cat other
    → (xs : List Named) → AllByRecursion (IsNamed cat table.number) xs → AllByRecursion (Needs (given within (entry_at table columns source t)) (keys_of table.number other)) xs
need_all cat table columns within source other t rows keyed [] a = tt
need_all cat table columns within source other t rows keyed (x ∷ xs) a = (need_one cat table columns within source other t x rows keyed a.0, need_all cat table columns within source other t rows keyed xs a.1)

kept_by : (table : Table) (columns : List Column) (within : List ℕ → Bool) (x : Named) (es : List Entry) (r : Row) (b : Bool) → within x.0 ≡ b
    → filter (λ e. within e.key) (cons_option (option_map (entry_of table columns x) r) es) ≡ cons_option (cond b (option_map (entry_of table columns x) r) None) (filter (λ e. within e.key) es)
kept_by table columns within x es None true e = refl
kept_by table columns within x es None false e = refl
kept_by table columns within x es (Some set) true e = ap (λ b. cond b (entry_of table columns x set ∷ filter (λ e. within e.key) es) (filter (λ e. within e.key) es)) e
kept_by table columns within x es (Some set) false e = ap (λ b. cond b (entry_of table columns x set ∷ filter (λ e. within e.key) es) (filter (λ e. within e.key) es)) e

kept : (table : Table) (columns : List Column) (within : List ℕ → Bool) (source : List Change) (t : ℕ) (xs : List Named)
    → filter (λ e. within e.key) (filter_map (entry_at table columns source t) xs) ≡ filter_map (given within (entry_at table columns source t)) xs
kept table columns within source t [] = refl
kept table columns within source t (x ∷ xs) = kept_by table columns within x (filter_map (entry_at table columns source t) xs) (row_at source x.0 t) (within x.0) refl
    ∙ ap (cons_option (given within (entry_at table columns source t) x)) (kept table columns within source t xs)

swap_rows : (within : List ℕ → Bool) (source other : List Change) (t : ℕ) → SameRows within source other t → SameRows within other source t
swap_rows within source other t rows key b = sym (rows key b)

-- where the rows of the keys within some agree, the snapshots agree within them
pub snapshot_within : (cat : Catalogue) (within : List ℕ → Bool) (source other : List Change) (table : Table) (columns : List Column) (t : ℕ) → AreKeyed cat source → AreKeyed cat other
    → SameRows within source other t → filter (λ e. within e.key) (snapshot source table columns t) ≡ filter (λ e. within e.key) (snapshot other table columns t)
unfolding snapshot
snapshot_within cat within source other table columns t p q rows =
    let f = entry_at table columns source t in
    let g = entry_at table columns other t in
    let xs = keys_of table.number source in
    let ys = keys_of table.number other in
    let a = keys_all (IsNamed cat table.number) table.number [] source tt (all_named cat table.number source p) in
    let b = keys_all (IsNamed cat table.number) table.number [] other tt (all_named cat table.number other q) in
    kept table columns within source t xs
    ∙ same_map (IsNamed cat table.number) (given within f) (given within g) (named_once cat table.number) (λ x n. alike_by (within x.0) (f x) (g x) (λ e. ap (option_map (entry_of table columns x)) (rows x.0 e)))
    xs ys (keys_rising table.number [] source tt) (keys_rising table.number [] other tt) a b
    (need_all cat table columns within source other t rows q xs a) (need_all cat table columns within other source t (swap_rows within source other t rows) p ys b)
    ∙ sym (kept table columns within other t ys)

all_kept : {E : Type 0} (es : List E) → filter (λ e. true) es ≡ es
all_kept [] = refl
all_kept (e ∷ es) = ap (λ xs. e ∷ xs) (all_kept es)

-- where all rows agree, the snapshots do
pub snapshot_by_rows : (cat : Catalogue) (source other : List Change) (table : Table) (columns : List Column) (t : ℕ) → AreKeyed cat source → AreKeyed cat other
    → ((key : List ℕ) → row_at source key t ≡ row_at other key t) → snapshot source table columns t ≡ snapshot other table columns t
snapshot_by_rows cat source other table columns t p q rows =
    sym (all_kept (snapshot source table columns t)) ∙ snapshot_within cat (λ key. true) source other table columns t p q (λ key e. rows key) ∙ all_kept (snapshot other table columns t)

both_by : {E : Type 0} (f g : E → Bool) (e : E) (es : List E) (b : Bool) → f e ≡ b → cond (b && g e) (e ∷ filter g (filter f es)) (filter g (filter f es)) ≡ filter g (cond b (e ∷ filter f es) (filter f es))
both_by f g e es true h = refl
both_by f g e es false h = refl

filter_both : {E : Type 0} (f g : E → Bool) (es : List E) → filter (λ e. f e && g e) es ≡ filter g (filter f es)
filter_both f g [] = refl
filter_both f g (e ∷ es) = ap (λ xs. cond (f e && g e) (e ∷ xs) xs) (filter_both f g es) ∙ both_by f g e es (f e) refl

-- where the entries of a query's interval agree, its answers do
pub answer_within : (t : Table) (columns : List Column) (q : Query) (es ds : List Entry) → filter (λ e. in_range e.key (interval t.number (key_kinds t.key) q)) es ≡ filter (λ e. in_range e.key (interval t.number (key_kinds t.key) q)) ds
    → answer t columns q es ≡ answer t columns q ds
unfolding answer
answer_within t columns q es ds h =
    let full = full_columns t.key columns in
    let f : Entry → Bool = λ e. in_range e.key (interval t.number (key_kinds t.key) q) in
    let g : Entry → Bool = λ e. is_true (holds q.filter full e.row) in
    ap (λ xs. first_rows q.limit (map (λ e. pick (places full q.columns) e.row) xs)) (filter_both f g es ∙ ap (filter g) h ∙ sym (filter_both f g ds))

-- where the rows of the keys in a query's interval agree, its answers over the snapshots do
pub answer_by_rows : (cat : Catalogue) (source other : List Change) (table : Table) (columns : List Column) (q : Query) (t : ℕ) → AreKeyed cat source → AreKeyed cat other
    → ((key : List ℕ) → in_range key (interval table.number (key_kinds table.key) q) ≡ true → row_at source key t ≡ row_at other key t)
    → answer table columns q (snapshot source table columns t) ≡ answer table columns q (snapshot other table columns t)
answer_by_rows cat source other table columns q t p r rows = answer_within table columns q (snapshot source table columns t) (snapshot other table columns t)
    (snapshot_within cat (λ key. in_range key (interval table.number (key_kinds table.key) q)) source other table columns t p r rows)
