-- The data of the computed examples: a table `t` with two versions, a stream, a struct that gets a field, and a fresh store.
use Rattle.std.specs.Prelude.{List, None, Some, [], codes, pos, ℕ, ◌++◌, ◌∷◌}
use Rattle.lt_terms.specs.Key.{all_keys, int_part}
use Rattle.lt_terms.specs.Log.{Change, Header}
use Rattle.lt_terms.specs.Value.{Value, field_value, int_value, no_fields, struct_value, text_value}
use Rattle.lt_terms.specs.Kind.{Kind, field_kind, no_kinds, plain, structured}
use Rattle.lt_terms.specs.declared.Op.{Op}
use Rattle.lt_terms.specs.Layout.{Cell}
use Rattle.lt_tables.specs.Schema.{Catalogue, Column, SchemaVersion, Table, live_version, new_table, with_version}
use Rattle.lt_tables.specs.Row.{Entry}
use Rattle.lt_tables.specs.Version.{RowVersion}
use Rattle.lt_storage.specs.Store.{Manifest}
use Rattle.lt_machine.specs.Machine.{fresh}
use Rattle.lt_terms.specs.declared.Format.TheVariants as format
use Rattle.lt_terms.specs.declared.Op.TheVariants as ops
use Rattle.lt_terms.specs.declared.KeyKind.TheVariants as key_kind
use Rattle.lt_terms.specs.declared.Rank.TheVariants as rank
use Rattle.lt_storage.specs.Store as store

-- ---- one table and its stream

abbrev pub head : Header
head = record { format = format.One; stream = 0; range = all_keys; predecessor = None; from = 0 }

abbrev pub inserted : Change
inserted = record { ts = 5; table = 1; version = 1; op = ops.Insert; key = int_part (pos 1) ∷ []; set = (1, int_value (pos 10)) ∷ (2, text_value (codes "x")) ∷ [] }

abbrev pub updated : Change
updated = record { ts = 8; table = 1; version = 1; op = ops.Update; key = int_part (pos 1) ∷ []; set = (1, int_value (pos 11)) ∷ [] }

abbrev pub version_one : SchemaVersion
version_one = record {
  table = codes "t";
  number = 1;
  version = 1;
  key = record { name = codes "id"; kind = key_kind.Int64 } ∷ [];
  columns = record { number = 1; name = codes "a"; kind = plain rank.Int64; fallback = None } ∷ record { number = 2; name = codes "b"; kind = plain rank.Text; fallback = None } ∷ [];
}

abbrev pub one_table : Catalogue
one_table = with_version [] version_one

-- ---- a column that the second version adds, with a default

abbrev pub columns_two : List Column
columns_two = version_one.columns ++ record { number = 3; name = codes "c"; kind = plain rank.Int64; fallback = Some (int_value (pos 9)) } ∷ []

abbrev pub table_two : Table
table_two = record (new_table version_one) { versions = live_version version_one.columns ∷ live_version columns_two ∷ [] }

-- the key 1 of the table, and a row of it
abbrev pub key_one : List ℕ
key_one = 0 ∷ 0 ∷ 0 ∷ 1 ∷ 128 ∷ 0 ∷ 0 ∷ 0 ∷ 0 ∷ 0 ∷ 0 ∷ 1 ∷ []

abbrev pub entry_one : List Value → List Entry
entry_one row = record { key = key_one; row = int_value (pos 1) ∷ row } ∷ []

-- ---- a struct that gets a field, and an update under the older version

abbrev pub pair_kind : Kind
pair_kind = structured (field_kind 1 (codes "x") (plain rank.Int64) (field_kind 2 (codes "y") (plain rank.Int64) no_kinds))

abbrev pub x_alone : ℕ → Value
x_alone n = struct_value (field_value 1 (int_value (pos n)) no_fields)

-- ---- versions of one row

abbrev pub version_at : ℕ → Op → List Cell → RowVersion
version_at t op cells = record { key = key_one; ts = t; op = op; cells = cells }

-- ---- a fresh store of one stream

abbrev pub fresh_manifest : Manifest
fresh_manifest = store.bare_manifest (fresh 1048576 (head ∷ []))
