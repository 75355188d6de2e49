-- What schema versions and refusals stand for in the definitions.
use Rattle.std.specs.Prelude.{List, map, option_map, ℕ}
use Rattle.lt_terms.specs.Kind as kinds
use Rattle.lt_tables.specs.Schema as schema
use Rattle.lt_core.specs.declared.kind.Kind.{Kind}
use Rattle.lt_core.specs.View.{view_kind, view_value}
use Rattle.lt_schema.specs.declared.version.Column.{Column}
use Rattle.lt_schema.specs.declared.version.KeyColumn.{KeyColumn}
use Rattle.lt_schema.specs.declared.version.SchemaVersion.{SchemaVersion}

abbrev pub view_key_column : KeyColumn → schema.KeyColumn
view_key_column k = record { name = k.name; kind = k.kind }

abbrev pub view_key : List KeyColumn → List schema.KeyColumn
view_key ks = map view_key_column ks

abbrev pub view_column : Column → schema.Column
view_column c = record { number = c.number; name = c.name; kind = view_kind c.kind; fallback = option_map view_value c.fallback }

abbrev pub view_columns : List Column → List schema.Column
view_columns cs = map view_column cs

abbrev pub view_version : SchemaVersion → schema.SchemaVersion
view_version v = record { table = v.table; number = v.number; version = v.version; key = view_key v.key; columns = view_columns v.columns }

-- a struct's field: number, name and kind
abbrev pub view_field : ℕ × List ℕ × Kind → ℕ × List ℕ × kinds.Kind
view_field f = (f.0, f.1, view_kind f.2)

abbrev pub view_fields : List (ℕ × List ℕ × Kind) → kinds.FieldKinds
view_fields fs = kinds.field_kinds_of (map view_field fs)
