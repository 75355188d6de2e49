-- A struct's fields, as they stand in the code.
use Rattle.std.specs.Prelude.{List, None, Option, Some, map, ℕ}
use Rattle.std.specs.Borrow.{Bor}
use Rattle.lt_terms.specs.Kind as kinds
use Rattle.lt_terms.specs.Value as model
use Rattle.lt_core.specs.declared.value.Value.{Value}
use Rattle.lt_core.specs.declared.kind.Kind.{Kind}
use Rattle.lt_core.specs.View.{view_kind, view_settings, view_value}

abbrev pub view_fields : List (ℕ × Value) → model.Fields
view_fields fs = model.fields_of (view_settings fs)

abbrev pub view_field_kind : ℕ × List ℕ × Kind → ℕ × List ℕ × kinds.Kind
view_field_kind f = (f.0, f.1, view_kind f.2)

abbrev pub view_field_kinds : List (ℕ × List ℕ × Kind) → kinds.FieldKinds
view_field_kinds ks = kinds.field_kinds_of (map view_field_kind ks)

abbrev pub value_found : Option (Bor Value) → model.Value
value_found None = model.null_value
value_found (Some v) = view_value v.now
