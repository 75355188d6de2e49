-- A query with no bounds, names or predicate answers each full row of its table whole.
use Rattle.std.proofs.Common.{Bool, List, [], ap, ap₂, append-nil, arith, cond, false, length, ltb-true, not, refl, subst, sym, true, ℕ, suc, ◌+◌, ◌<◌, ◌∙◌, ◌∷◌, ◌++◌, ◌≡◌}
use Rattle.std.specs.Prelude.{IsTrue, None, Option, Some, filter, flat_map, map, nat_le, nat_lt, slice_get, unwrap_or, ◌&&◌, ◌^◌}
use Rattle.std.specs.List.{AllByRecursion}
use Rattle.std.specs.Option.{option_map_or}
use Rattle.std.specs.Ordering.{is_lt, nat_cmp, ordering_then}
use Rattle.std.specs.declared.cmp.Ordering.{Ordering}
use Rattle.std.specs.declared.cmp.Ordering.TheVariants.{Less}
use Rattle.std.proofs.lemmas.Bool.{and_parts, false≢true}
use Rattle.std.proofs.lemmas.Bool.Decides.{nat_tests}
use Rattle.std.proofs.lemmas.Cmp.{nat_cmp_total, tied_itself}
use Rattle.std.proofs.lemmas.List.{length-append, length-map}
use Rattle.lt_terms.specs.declared.KeyKind.{KeyKind}
use Rattle.lt_terms.specs.Value.{Value, is_number, is_timestamp, null_value}
use Rattle.lt_terms.specs.Key.{KeyPart, below, bytes_cmp, greater_low, in_range, is_key_of, is_part_of, key_bytes, max_key, part_bytes}
use Rattle.lt_tables.specs.Row.{AreKeyed, IsKeyed}
use Rattle.lt_terms.specs.Log.{Change, change_key, is_change}
use Rattle.lt_tables.specs.Pump.{is_deliverable}
use Rattle.lt_tables.specs.Query.{all_rows, answer, full_columns, holds, interval, is_true, pick, places_from}
use Rattle.lt_tables.specs.Row.{Entry}
use Rattle.lt_tables.specs.Schema.{Catalogue, Column, IsCatalogue, SchemaVersion, Table, key_kinds, registered, table_numbered}
use Rattle.lt_tables.specs.Fair.{has_change_shape}
use Rattle.lt_words.specs.Script.{plain_query}
use Rattle.lt_codecs.proofs.KeyLaws.{tables_cmp}
use Rattle.lt_lemmas.proofs.TableLaws.{fine_table}
use Rattle.lt_lemmas.proofs.TakenLaws.{number_fits, shape_key}
use Rattle.lt_lemmas.proofs.VersionGrowth.{its_number}
use Rattle.lt_rows.specs.Present.{Present, Rows, full_row, present_by}
use Rattle.lt_rows.specs.Scans.{AreShaped, RiseByKey, scan_rows}
use Rattle.lt_rows.proofs.PresentLaws.{IsNamedRow}
use Rattle.lt_rows.proofs.SnapshotRows.{present_good, shown_entry, snapshot_is}

-- ---- the places of a whole row

next_place : (v : Value) (row : List Value) (n : ℕ) → slice_get (v ∷ row) (n + 1) ≡ slice_get row n
next_place v row n = let e : n + 1 ≡ suc n = omega arith in ap (slice_get (v ∷ row)) e

shifted : {A : Type 0} (v : Value) (row : List Value) (n : ℕ) (full : List A) → pick (places_from (n + 1) full) (v ∷ row) ≡ pick (places_from n full) row
shifted v row n [] = refl
shifted v row n (c ∷ cs) = ap₂ (λ (x : Value) (xs : List Value). x ∷ xs) (ap (λ (o : Option Value). unwrap_or o null_value) (next_place v row n)) (shifted v row (n + 1) cs)

one_less : (a b : ℕ) → suc a ≡ suc b → a ≡ b
one_less a b h = omega (arith, h)

pick_whole : {A : Type 0} (full : List A) (row : List Value) → length row ≡ length full → pick (places_from 0 full) row ≡ row
pick_whole [] [] h = refl
pick_whole [] (v ∷ vs) h = absurd (omega (arith, h))
pick_whole (c ∷ cs) [] h = absurd (omega (arith, h))
pick_whole (c ∷ cs) (v ∷ vs) h = ap (λ (xs : List Value). v ∷ xs) (shifted v vs 0 cs ∙ pick_whole cs vs (omega (arith, h)))

key_length : (ks : List KeyKind) (ps : List KeyPart) → IsTrue (is_key_of ks ps) → length ps ≡ length ks
key_length [] [] h = refl
key_length [] (p ∷ ps) h = absurd (false≢true h)
key_length (k ∷ ks) [] h = absurd (false≢true h)
key_length (k ∷ ks) (p ∷ ps) h = let r = key_length ks ps (and_parts (is_part_of k p) (is_key_of ks ps) h).1 in omega (arith, r)

row_length : (cat : Catalogue) (t : Table) (columns : List Column) (e : List ℕ × Present) → length e.1.0 ≡ length t.key → length (full_row cat t.number columns e) ≡ length (full_columns t.key columns)
row_length cat t columns e h = grind (arith, length-append, length-map)

-- ---- the interval of a whole table

none_below_first : (a : List ℕ) → below a [] ≡ false
none_below_first [] = refl
none_below_first (x ∷ xs) = refl

pub low_is : (a : List ℕ) → greater_low a [] ≡ a
low_is [] = refl
low_is (x ∷ xs) = refl

bare : (t u : ℕ) (ps : List KeyPart) → t < 2 ^ 32 → u < 2 ^ 32 → bytes_cmp (key_bytes t ps) (key_bytes u []) ≡ ordering_then (nat_cmp t u) (bytes_cmp (flat_map part_bytes ps ++ []) [])
bare t u ps h i = ap₂ bytes_cmp (sym (append-nil (key_bytes t ps))) (sym (append-nil (key_bytes u []))) ∙ tables_cmp t u ps [] [] [] h i

from_low : (t : ℕ) (ps : List KeyPart) → t < 2 ^ 32 → below (key_bytes t ps) (key_bytes t []) ≡ false
from_low t ps h = ap is_lt (bare t t ps h h ∙ ap (λ (o : Ordering). ordering_then o (bytes_cmp (flat_map part_bytes ps ++ []) [])) (tied_itself nat_cmp_total t)) ∙ none_below_first (flat_map part_bytes ps ++ [])

less_than_next : (t : ℕ) → nat_cmp t (t + 1) ≡ Less
less_than_next t = grind (arith, nat_tests)

pub up_to_high : (t : ℕ) (ps : List KeyPart) → t + 1 < 2 ^ 32 → below (key_bytes t ps) (key_bytes (t + 1) []) ≡ true
up_to_high t ps h = ap is_lt (bare t (t + 1) ps (omega (arith, h)) h ∙ ap (λ (o : Ordering). ordering_then o (bytes_cmp (flat_map part_bytes ps ++ []) [])) (less_than_next t))

in_whole : (t : ℕ) (ps : List KeyPart) → t + 1 < 2 ^ 32 → (not (below (key_bytes t ps) (greater_low (key_bytes t []) [])) && below (key_bytes t ps) (key_bytes (t + 1) [])) ≡ true
in_whole t ps h = ap₂ (λ (a b : Bool). not a && b) (ap (below (key_bytes t ps)) (low_is (key_bytes t [])) ∙ from_low t ps (omega (arith, h))) (up_to_high t ps h)

-- ---- the whole answer

key_parts_fit : (cat : Catalogue) (t : Table) (e : List ℕ × Present) → table_numbered cat t.number ≡ Some t → IsNamedRow cat t.number e → length e.1.0 ≡ length t.key
key_parts_fit cat t e i n = key_length (key_kinds t.key) e.1.0 (subst (λ (o : Option Table). IsTrue (is_key_of (option_map_or (λ t. key_kinds t.key) o []) e.1.0)) i n.2) ∙ length-map t.key (λ k. k.kind)

in_query : (cat : Catalogue) (t : Table) (v at : ℕ) (e : List ℕ × Present) → t.number + 1 < 2 ^ 32 → IsNamedRow cat t.number e → in_range e.0 (interval t.number (key_kinds t.key) (plain_query t.name v at None)) ≡ true
unfolding interval
in_query cat t v at e h n = ap (λ (k : List ℕ). not (below k (greater_low (key_bytes t.number []) [])) && below k (key_bytes (t.number + 1) [])) n.1 ∙ in_whole t.number e.1.0 h

abbrev entries_in : Table → List Column → ℕ → ℕ → List Entry → List Entry
entries_in t columns v at es = filter (λ e. in_range e.key (interval t.number (key_kinds t.key) (plain_query t.name v at None)) && is_true (holds all_rows (full_columns t.key columns) e.row)) es

each_answered : (cat : Catalogue) (t : Table) (columns : List Column) (v at : ℕ) (rows : Rows) → table_numbered cat t.number ≡ Some t → t.number + 1 < 2 ^ 32 → AllByRecursion (IsNamedRow cat t.number) rows
    → map (λ e. pick (places_from 0 (full_columns t.key columns)) e.row) (entries_in t columns v at (map (shown_entry cat t columns) rows)) ≡ map (full_row cat t.number columns) rows
unfolding holds
each_answered cat t columns v at [] i h a = refl
each_answered cat t columns v at (e ∷ es) i h a =
    let full = full_columns t.key columns in
    let x = shown_entry cat t columns e in
    let rest = entries_in t columns v at (map (shown_entry cat t columns) es) in
    ap (λ (b : Bool). map (λ (d : Entry). pick (places_from 0 full) d.row) (cond (b && true) (x ∷ rest) rest)) (in_query cat t v at e h a.0)
    ∙ ap₂ (λ (r : List Value) (rs : List (List Value)). r ∷ rs) (pick_whole full x.row (row_length cat t columns e (key_parts_fit cat t e i a.0))) (each_answered cat t columns v at es i h a.1)

pub whole_answer : (cat : Catalogue) (t : Table) (columns : List Column) (v at : ℕ) (rows : Rows) → table_numbered cat t.number ≡ Some t → t.number + 1 < 2 ^ 32 → AllByRecursion (IsNamedRow cat t.number) rows
    → answer t columns (plain_query t.name v at None) (map (shown_entry cat t columns) rows) ≡ map (full_row cat t.number columns) rows
unfolding answer
whole_answer cat t columns v at rows i h a = each_answered cat t columns v at rows i h a

-- ---- changes of registered shapes are keyed

keyed_by : (cat : Catalogue) (c : Change) (o : Option Table) → IsCatalogue cat → table_numbered cat c.table ≡ o → option_map_or (λ t. option_map_or (λ x. has_change_shape t x c) (registered t c.version) false) o false ≡ true → IsKeyed cat c
keyed_by cat c None l e h = absurd (false≢true h)
keyed_by cat c (Some t) l e h = (
  subst (λ (n : ℕ). n < 2 ^ 32) (its_number cat c.table t e) (number_fits t.number (fine_table cat c.table t l e).number),
  subst (λ (o : Option Table). IsTrue (is_key_of (option_map_or (λ t. key_kinds t.key) o []) c.key)) (sym e) (shape_key (Some t) (registered t c.version) c h),
)

keyed : (cat : Catalogue) (c : Change) → IsCatalogue cat → IsTrue (is_deliverable cat c) → IsKeyed cat c
keyed cat c l h = keyed_by cat c (table_numbered cat c.table) l refl (and_parts (is_change c) _ h).1

all_keyed : (cat : Catalogue) (cs : List Change) → IsCatalogue cat → AreShaped cat cs → AreKeyed cat cs
all_keyed cat [] l a = tt
all_keyed cat (c ∷ cs) l a = (keyed cat c l a.0, all_keyed cat cs l a.1)

-- ---- all of it

pub below_last : (n : ℕ) → IsTrue (is_number n) → n + 1 < 2 ^ 32
below_last n h = let l : n < 2 ^ 16 = ltb-true n (2 ^ 16) (and_parts (nat_lt 0 n) (nat_lt n (2 ^ 16)) h).1 in omega (arith, l)

of_table : (cat : Catalogue) (cs : List Change) (t : Table) (v : SchemaVersion) (at : ℕ) → IsCatalogue cat → AreKeyed cat cs → RiseByKey cs → table_numbered cat t.number ≡ Some t
    → map (full_row cat t.number v.columns) (present_by t.number at [] cs) ≡ scan_rows t v cs at
of_table cat cs t v at l k rise i =
    sym (ap (answer t v.columns (plain_query t.name v.version at None)) (snapshot_is cat t v.columns cs at i k rise)
    ∙ whole_answer cat t v.columns v.version at (present_by t.number at [] cs) i (below_last t.number (fine_table cat t.number t l i).number) (present_good cat t.number at cs k).named)

-- the present rows, as a version reads them, are the answer of a plain query over the snapshot
pub scan_is : (cat : Catalogue) (cs : List Change) (number : ℕ) (t : Table) (v : SchemaVersion) (at : ℕ) → IsCatalogue cat → AreShaped cat cs → RiseByKey cs → table_numbered cat number ≡ Some t
    → map (full_row cat number v.columns) (present_by number at [] cs) ≡ scan_rows t v cs at
scan_is cat cs number t v at l shaped rise e =
    let k : t.number ≡ number = its_number cat number t e in
    subst (λ (n : ℕ). map (full_row cat n v.columns) (present_by n at [] cs) ≡ scan_rows t v cs at) k (of_table cat cs t v at l (all_keyed cat cs l shaped) rise (ap (table_numbered cat) k ∙ e))
