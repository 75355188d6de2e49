-- How the key of a split is found, and what is parted there.
use Rattle.std.specs.Prelude.{List, None, Option, Some, [], codes, filter, is_none, length, map, nat_le, nat_lt, not, option_and_then, option_map, slice_index_or, suc, zero, ℕ, ◌+◌, ◌==◌, ◌∷◌, ◌≡◌, ◌≤◌}
use Rattle.std.specs.Option.{option_or}
use Rattle.lt_terms.specs.Key.{below, max_key}
use Rattle.lt_terms.specs.Log.{Change, change_key}
use Rattle.lt_machine.specs.Machine.{part_misfit, split_key}
use Rattle.lt_machine.specs.Sound.{Memory}
use Rattle.lt_tables.specs.Query.{Literal, bound}
use Rattle.lt_words.specs.Reply as model
use Rattle.lt_words.specs.Reply.{at_edge, bad_column, key_too_long, no_such_table, too_many_parts, wrong_literal}
use Rattle.lt_tables.specs.Schema.{Catalogue, KeyColumn, SchemaVersion, Table, first_of, key_kinds, table_named, when}
use Rattle.lt_parts.specs.Parts.{IsSplit, edge_in, ranges}
use Rattle.lt_tables.specs.Pump.{part_of}
use Rattle.lt_replica.specs.Settling.{part_of_entry}
use Rattle.lt_parts.specs.declared.entry.PartEntry.{PartEntry}

-- ---- the key

-- a version has the table's number and key
pub record IsOfTable (cat : Catalogue) (name : List ℕ) (version : SchemaVersion) : Type 0 where
  pub table : Table
  pub named : table_named cat name ≡ Some table
  pub numbered : version.number ≡ table.number
  pub keyed : version.key ≡ table.key

-- why literals are no key of a table: their number, the first that does not fit, or their length
abbrev pub key_fault : ℕ → List KeyColumn → List Literal → Option model.Refusal
key_fault table ks ls = first_of
    (option_map bad_column (when (not (length ls == length ks)) (codes "key"))
    ∷ option_map wrong_literal (part_misfit ks ls)
    ∷ (let n = length (bound table (key_kinds ks) ls) in when (nat_lt max_key n) (key_too_long n))
    ∷ [])

abbrev pub named_key_fault : Catalogue → List ℕ → List Literal → Option model.Refusal
named_key_fault cat name ls = option_or (when (is_none (table_named cat name)) (no_such_table name)) (option_and_then (λ t. key_fault t.number t.key ls) (table_named cat name))

-- the bytes that literals spell as a key of the table with a name
pub record IsSplitKey (cat : Catalogue) (name : List ℕ) (ls : List Literal) (key : List ℕ) : Type 0 where
  pub table : Table
  pub named : table_named cat name ≡ Some table
  pub free : key_fault table.number table.key ls ≡ None
  pub is : key ≡ split_key table ls

-- ---- the partitions

-- why partitions are not split at a key
abbrev pub parts_fault : List PartEntry → List ℕ → Option model.Refusal
parts_fault es key = option_or (option_map at_edge (edge_in es key)) (when (nat_le 1024 (length es)) too_many_parts)

-- Up to their checkpoints the partitions are those of before with one more, behind that of a key, of which the number is told. The key is no
-- partition's low bound, and short enough for one.
pub record HasSplit (old : List PartEntry) (key : List ℕ) (new : List PartEntry) (upper : ℕ) : Type 0 where
  pub parts : List PartEntry
  pub split : IsSplit old key parts upper
  pub same : map part_of_entry new ≡ map part_of_entry parts
  pub place : upper ≡ part_of (ranges old) key + 1
  pub free : parts_fault old key ≡ None
  pub short : length key ≤ max_key

-- what the partition at a place holds from a key on
abbrev pub upper_at : ℕ → List ℕ → Memory → List Change
upper_at part key mem = filter (λ c. not (below (change_key c) key)) (slice_index_or mem part [])

-- what the partition at a place holds is parted at a key
abbrev pub parted_at : ℕ → List ℕ → Memory → Memory
parted_at part key [] = []
parted_at zero key (cs ∷ rest) = filter (λ c. below (change_key c) key) cs ∷ filter (λ c. not (below (change_key c) key)) cs ∷ rest
parted_at (suc part) key (cs ∷ rest) = cs ∷ parted_at part key rest
