-- Worked reopenings and readings by several versions, computed.
use Rattle.std.specs.Str.{chars, is_utf8}
use Rattle.std.specs.Fmt.{digits}
use lib.Utf8.{encode}
use Rattle.std.proofs.Common.{List, [], drop, false, map, pos, refl, take, ℕ, ◌∷◌, ◌≡◌}
use Rattle.std.specs.Prelude.{None, Some, codes}
use Rattle.lt_terms.specs.Conversion.{at_rank, number_of_text}
use Rattle.lt_terms.specs.Layout.{cell_to, coerce, unflatten}
use Rattle.lt_terms.specs.Log.{Change, Item, change_item, changes_of, checkpoint_item, spelled}
use Rattle.lt_terms.specs.Value.{Value, field_value, int_value, no_fields, null_value, struct_value, text_value}
use Rattle.lt_terms.specs.Key.{int_part}
use Rattle.lt_terms.specs.Kind.{Kind, field_kind, no_kinds, plain, structured}
use Rattle.lt_terms.specs.declared.Op.{Op}
use Rattle.lt_tables.specs.Schema.{Catalogue, Column, SchemaVersion, carrier, carrier_layout, schema_fault, table_numbered, with_version}
use Rattle.lt_tables.specs.Fair.{breaks, breaks_at, point_of}
use Rattle.lt_tables.specs.Row.{snapshot}
use Rattle.lt_tables.specs.Version.{asof, collapse, compose, merge, read_cells, seen}
use Rattle.lt_tables.specs.Query.{answer, holds, interval}
use Rattle.lt_words.specs.Script.{number_word}
use Rattle.lt_storage.specs.Bundle.{bundle_bytes, cut}
use Rattle.lt_machine.specs.Machine.{State, flushed, opened, parts_told, refused, streams_told, was_split, with_items}
use Rattle.lt_examples.proofs.MachineChecks.{insert_at, key_of, started}
use Rattle.lt_examples.specs.Examples.{head}
use Rattle.lt_terms.specs.declared.Op.TheVariants as ops
use Rattle.lt_terms.specs.declared.KeyKind.TheVariants as key_kind
use Rattle.lt_terms.specs.declared.Rank.TheVariants as rank

computes : Unit {0}
unfolding is_utf8 chars encode digits at_rank number_of_text carrier carrier_layout schema_fault spelled breaks breaks_at point_of snapshot unflatten cell_to coerce seen compose merge asof collapse interval holds answer bundle_bytes cut refused number_word
computes = tt

-- ---- restart points

abbrev later : ℕ → ℕ → ℕ → Item
later t key a = change_item (record { ts = t; table = 1; version = 1; op = ops.Insert; key = int_part (pos key) ∷ []; set = (1, int_value (pos a)) ∷ (2, text_value (codes "y")) ∷ [] })

abbrev items : List Item
items = insert_at 1 ∷ insert_at 2 ∷ insert_at 3 ∷ insert_at 4 ∷ checkpoint_item 5 ∷ later 6 1 60 ∷ later 7 4 70 ∷ checkpoint_item 8 ∷ []

abbrev source : List Change
source = changes_of items

abbrev lower_flushed : State
lower_flushed = flushed source (with_items 0 (drop 5 items) (was_split (flushed source (with_items 0 (take 5 items) started) 0) (key_of 3))) 0

abbrev reopened : State
reopened = opened lower_flushed.durable (head ∷ [])

stands_at_point : streams_told reopened ≡ record { stream = 0; offset = 243; checkpoint = 5; closed = false } ∷ []
unfolding computes
stands_at_point = refl

parts_after : parts_told reopened ≡ record { low = []; resume = 8; checkpoint = 8; pending = 0; deltas = 2 } ∷ record { low = key_of 3; resume = 5; checkpoint = 5; pending = 0; deltas = 1 } ∷ []
unfolding computes
parts_after = refl

-- ---- one column through three kinds

abbrev u : ℕ → Kind → SchemaVersion
u v k = record { table = codes "u"; number = 2; version = v; key = record { name = codes "id"; kind = key_kind.Int64 } ∷ []; columns = record { number = 1; name = codes "n"; kind = k; fallback = None } ∷ [] }

abbrev three : Catalogue
three = with_version (with_version (with_version [] (u 1 (plain rank.Int32))) (u 2 (plain rank.Int64))) (u 3 (plain rank.Text))

accepted : schema_fault (with_version (with_version [] (u 1 (plain rank.Int32))) (u 2 (plain rank.Int64))) (u 3 (plain rank.Text)) ≡ None
unfolding computes
accepted = refl

abbrev in_version : ℕ → ℕ → ℕ → Value → Change
in_version v t key x = record { ts = t; table = 2; version = v; op = ops.Insert; key = int_part (pos key) ∷ []; set = (1, x) ∷ [] }

abbrev numbers : List Change
numbers = in_version 3 1 1 (text_value (codes "7")) ∷ in_version 3 2 2 (text_value (codes "007")) ∷ in_version 2 3 3 (int_value (pos 1099511627776)) ∷ []

rows_of : Catalogue → ℕ → Kind → ℕ → List Change → List (List Value)
rows_of cat n k t source = elim (table_numbered cat n) [ None ↦ [] | Some x ↦ map (λ e. e.row) (snapshot source x (record { number = 1; name = codes "n"; kind = k; fallback = None } ∷ []) t) ]

read_as_int32 : rows_of three 2 (plain rank.Int32) 4 numbers ≡ (int_value (pos 1) ∷ int_value (pos 7) ∷ []) ∷ (int_value (pos 2) ∷ null_value ∷ []) ∷ (int_value (pos 3) ∷ null_value ∷ []) ∷ []
unfolding computes rows_of
read_as_int32 = refl

read_as_text : rows_of three 2 (plain rank.Text) 4 numbers ≡ (int_value (pos 1) ∷ text_value (codes "7") ∷ []) ∷ (int_value (pos 2) ∷ text_value (codes "007") ∷ []) ∷ (int_value (pos 3) ∷ text_value (codes "1099511627776") ∷ []) ∷ []
unfolding computes rows_of
read_as_text = refl

-- ---- a struct that got a field, and an update under the older version

abbrev p_old : Kind
p_old = structured (field_kind 1 (codes "x") (plain rank.Int64) no_kinds)

abbrev p_new : Kind
p_new = structured (field_kind 1 (codes "x") (plain rank.Int64) (field_kind 2 (codes "y") (plain rank.Int64) no_kinds))

abbrev columns_with : Kind → List Column
columns_with k = record { number = 1; name = codes "p"; kind = k; fallback = None } ∷ record { number = 2; name = codes "q"; kind = plain rank.Int64; fallback = None } ∷ []

abbrev s : ℕ → Kind → SchemaVersion
s v k = record { table = codes "s"; number = 3; version = v; key = record { name = codes "id"; kind = key_kind.Int64 } ∷ []; columns = columns_with k }

abbrev two : Catalogue
two = with_version (with_version [] (s 1 p_old)) (s 2 p_new)

abbrev in_s : ℕ → ℕ → Op → List (ℕ × Value) → Change
in_s v t op set = record { ts = t; table = 3; version = v; op = op; key = int_part (pos 1) ∷ []; set = set }

abbrev x_of : ℕ → Value
x_of n = struct_value (field_value 1 (int_value (pos n)) no_fields)

abbrev structs : List Change
structs = in_s 2 1 ops.Insert ((1, struct_value (field_value 1 (int_value (pos 5)) (field_value 2 (int_value (pos 6)) no_fields))) ∷ (2, int_value (pos 1)) ∷ [])
    ∷ in_s 1 2 ops.Update ((2, int_value (pos 2)) ∷ []) ∷ in_s 1 4 ops.Update ((1, x_of 7) ∷ []) ∷ []

struct_rows : ℕ → Kind → List (List Value)
struct_rows t k = elim (table_numbered two 3) [ None ↦ [] | Some x ↦ map (λ e. e.row) (snapshot structs x (columns_with k) t) ]

before_update : struct_rows 3 p_new ≡ (int_value (pos 1) ∷ struct_value (field_value 1 (int_value (pos 5)) (field_value 2 (int_value (pos 6)) no_fields)) ∷ int_value (pos 2) ∷ []) ∷ []
unfolding computes struct_rows
before_update = refl

-- the field is not filled from the older version
after_update : struct_rows 5 p_new ≡ (int_value (pos 1) ∷ struct_value (field_value 1 (int_value (pos 7)) (field_value 2 null_value no_fields)) ∷ int_value (pos 2) ∷ []) ∷ []
unfolding computes struct_rows
after_update = refl

-- the same through cells under the carriers
stored_rows : ℕ → Kind → List (List Value)
stored_rows t k = elim (table_numbered two 3) [ None ↦ [] | Some x ↦ map (λ v. read_cells x (columns_with k) (carrier_layout x) v.cells) (asof t (merge ((seen two (in_s 1 4 ops.Update ((1, x_of 7) ∷ [])) ∷ []) ∷ map (λ c. seen two c ∷ []) (take 2 structs)))) ]

stored_after_update : stored_rows 5 p_new ≡ (struct_value (field_value 1 (int_value (pos 7)) (field_value 2 null_value no_fields)) ∷ int_value (pos 2) ∷ []) ∷ []
unfolding computes stored_rows
stored_after_update = refl
