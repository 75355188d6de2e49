-- What a table and its versions stand for.
use Rattle.std.specs.Prelude.{Some, map, slice_get, suc, ℕ, ◌≡◌}
use Rattle.lt_tables.specs.Schema as schema
use Rattle.lt_tables.specs.Schema.{whole_version}
use Rattle.lt_schema.specs.View.{view_columns, view_key, view_version}
use Rattle.lt_schema.specs.declared.table.Registered.{Registered}
use Rattle.lt_schema.specs.declared.table.Table.TheInside.{Inside}

abbrev pub view_registered : Registered → schema.Registered
view_registered r = record { live = r.live; columns = view_columns r.version.columns }

abbrev pub view_table : Inside → schema.Table
view_table t = record { number = t.number; name = t.name; key = view_key t.key; versions = map view_registered t.versions.items }

-- each version that is kept has the table's name, number and key, and stands at the place of its number
abbrev pub AreWhole : Inside → Type 0
AreWhole t = (v : ℕ) (r : Registered) → slice_get t.versions.items v ≡ Some r → view_version r.version ≡ whole_version (view_table t) (suc v) (view_registered r)
