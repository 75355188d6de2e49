-- Rows and snapshots: what the changes of a feed make of a table.
use Rattle.std.specs.Prelude.{Bool, IsTrue, List, None, Option, Some, [], filter, filter_map, fold, if◌then◌else◌, map, nat_le, option_map, unwrap_or, ℕ, ◌++◌, ◌<◌, ◌==◌, ◌^◌, ◌∷◌, ◌≡◌}
use Rattle.std.specs.Option.{option_map_or}
use Rattle.std.specs.List.{AllByRecursion}
use Rattle.lt_terms.specs.Value.{Value, rises_strictly}
use Rattle.lt_terms.specs.declared.Op.{Op}
use Rattle.lt_terms.specs.Log.{Change, change_key}
use Rattle.lt_terms.specs.Conversion.{conv}
use Rattle.lt_terms.specs.Layout.{setting}
use Rattle.lt_terms.specs.Key.{KeyPart, below, is_key_of, part_value, same_key}
use Rattle.lt_terms.specs.declared.KeyKind.{KeyKind}
use Rattle.lt_tables.specs.Schema.{Catalogue, Column, Table, fallback, key_kinds, table_numbered}
use Rattle.lt_tables.specs.Fair.{changes_to}
use Rattle.lt_terms.specs.declared.Op.TheVariants as ops

-- ---- rows

-- A row is absent, or has what was set: the setting of a column that stands first counts.
abbrev pub Row : Type 0
Row = Option (List (ℕ × Value))

-- An insert replaces the row whole. An update sets some columns, and leaves an absent row absent. A delete makes it absent.
abbrev pub row_by : Op → List (ℕ × Value) → Row → Row
row_by ops.Insert set row = Some set
row_by ops.Update set row = option_map (λ was_set. set ++ was_set) row
row_by ops.Delete set row = None

abbrev pub after_change : Row → Change → Row
after_change row c = row_by c.op c.set row

abbrev pub row_after : List Change → Row
row_after cs = fold after_change None cs

-- Of each column of the version: what was set, else the column's default, at the version's kind.
abbrev pub read_row : Table → List Column → List (ℕ × Value) → List Value
read_row t columns set = map (λ c. conv (unwrap_or (setting c.number set) (fallback t c.number)) c.kind) columns

-- ---- a source: the changes of the streams; their order in the list says nothing

-- changes by rising timestamp; of equal timestamps the one that stands first in the list stays first
abbrev pub put_by_ts : Change → List Change → List Change
put_by_ts c [] = c ∷ []
put_by_ts c (d ∷ ds) = if nat_le c.ts d.ts then c ∷ d ∷ ds else d ∷ put_by_ts c ds

abbrev pub in_time : List Change → List Change
in_time [] = []
in_time (c ∷ cs) = put_by_ts c (in_time cs)

-- a key's changes up to a moment
abbrev pub changes_up_to : List ℕ → ℕ → List Change → List Change
changes_up_to key t source = filter (λ c. nat_le c.ts t) (changes_to key source)

-- the row of a key at a moment: the effect of its changes up to then, in timestamp order
abbrev pub row_at : List Change → List ℕ → ℕ → Row
row_at source key t = row_after (in_time (changes_up_to key t source))

-- where a key's changes rise strictly in the list, they are taken in its order
abbrev pub is_in_time : List ℕ → List Change → Bool
is_in_time key source = rises_strictly (map (λ c. c.ts) (changes_to key source))

abbrev pub ReadsInOrder : Type 0
ReadsInOrder = (source : List Change) (key : List ℕ) (t : ℕ) → IsTrue (is_in_time key source) → row_at source key t ≡ row_after (changes_up_to key t source)

-- keys, rising, each once, with their parts
abbrev pub put_parts : Change → List (List ℕ × List KeyPart) → List (List ℕ × List KeyPart)
put_parts c [] = (change_key c, c.key) ∷ []
put_parts c (k ∷ ks) = if below (change_key c) k.0 then (change_key c, c.key) ∷ k ∷ ks else (if same_key (change_key c) k.0 then k ∷ ks else k ∷ put_parts c ks)

abbrev pub keys_of : ℕ → List Change → List (List ℕ × List KeyPart)
keys_of table source = fold (λ ks c. if c.table == table then put_parts c ks else ks) [] source

-- ---- snapshots

-- a row that is present: its key's bytes, and its full row, which is the key's parts and then the columns
pub record Entry : Type 0 where
  pub key : List ℕ
  pub row : List Value

abbrev pub entry_of : Table → List Column → List ℕ × List KeyPart → List (ℕ × Value) → Entry
entry_of t columns key set = record { key = key.0; row = map part_value key.1 ++ read_row t columns set }

-- In key order, each key of the table whose row at t is present, as a version of the table reads it.
unfoldable pub snapshot : List Change → Table → List Column → ℕ → List Entry
snapshot source table columns t = filter_map (λ key. option_map (entry_of table columns key) (row_at source key.0 t)) (keys_of table.number source)

-- the kinds of a table's key columns; an unknown table has none
abbrev pub kinds_in : Catalogue → ℕ → List KeyKind
kinds_in cat n = option_map_or (λ t. key_kinds t.key) (table_numbered cat n) []

-- a change's key is of its table's kinds, and the table's number stands in 4 bytes
abbrev pub IsKeyed : Catalogue → Change → Type 0
IsKeyed cat c = (c.table < 2 ^ 32) × IsTrue (is_key_of (kinds_in cat c.table) c.key)

abbrev pub AreKeyed : Catalogue → List Change → Type 0
AreKeyed cat cs = AllByRecursion (IsKeyed cat) cs
