-- What the code's types stand for in the definitions.
use Rattle.std.specs.Prelude.{ℕ, List, map}
use Rattle.lt_terms.specs.Key as keys
use Rattle.lt_terms.specs.Value as model
use Rattle.lt_terms.specs.Kind as kinds
use Rattle.lt_terms.specs.Layout as layouts
use Rattle.lt_core.specs.declared.value.Value.{Value, fold-Value}
use Rattle.lt_core.specs.declared.value.Value.TheOpen.{Value-F}
use Rattle.lt_core.specs.declared.kind.Kind.{Kind, fold-Kind}
use Rattle.lt_core.specs.declared.kind.Kind.TheOpen.{Kind-F}
use Rattle.lt_core.specs.declared.key.Key.{Key}
use Rattle.lt_core.specs.declared.key.KeyPart.{KeyPart}
use Rattle.lt_core.specs.declared.key.KeyPart.TheVariants as key_part
use Rattle.lt_core.specs.declared.key.Range.{Range}
use Rattle.lt_core.specs.declared.leaf.Leaf.{Leaf}
use Rattle.lt_core.specs.declared.leaf.Cell.{Cell}
use Rattle.lt_core.specs.declared.leaf.Cell.TheVariants as cells
use Rattle.lt_core.specs.declared.leaf.Scalar.{Scalar}
use Rattle.lt_core.specs.declared.leaf.Scalar.TheVariants as scalars

-- one level, with each value inside already seen
abbrev pub value_step : Value-F model.Value → model.Value
value_step Value-F.Null = model.null_value
value_step (Value-F.Bool b) = model.bool_value b
value_step (Value-F.Int z) = model.int_value z
value_step (Value-F.Text t) = model.text_value t
value_step (Value-F.Bytes b) = model.bytes_value b
value_step (Value-F.Struct fs) = model.struct_value (model.fields_of fs)

abbrev pub view_value : Value → model.Value
view_value = fold-Value model.Value value_step

abbrev pub view_setting : ℕ × Value → ℕ × model.Value
view_setting s = (s.0, view_value s.1)

abbrev pub view_settings : List (ℕ × Value) → List (ℕ × model.Value)
view_settings ss = map view_setting ss

abbrev pub view_row : List Value → List model.Value
view_row vs = map view_value vs

abbrev pub kind_step : Kind-F kinds.Kind → kinds.Kind
kind_step (Kind-F.Plain r) = kinds.plain r
kind_step (Kind-F.Enum names) = kinds.enumeration names
kind_step (Kind-F.Struct ks) = kinds.structured (kinds.field_kinds_of ks)

abbrev pub view_kind : Kind → kinds.Kind
view_kind = fold-Kind kinds.Kind kind_step

abbrev pub view_part : KeyPart → keys.KeyPart
view_part (key_part.Int z) = keys.int_part z
view_part (key_part.Text t) = keys.text_part t

abbrev pub view_parts : List KeyPart → List keys.KeyPart
view_parts ps = map view_part ps

-- a table's number, and the parts
abbrev pub view_key : Key → ℕ × List keys.KeyPart
view_key k = (k.table, view_parts k.parts)

abbrev pub view_range : Range → keys.Range
view_range r = record { low = r.low; high = r.high }

abbrev pub view_leaf : Leaf → layouts.Leaf
view_leaf l = record { column = l.column; path = l.path; rank = l.rank; presence = l.presence }

abbrev pub view_layout : List Leaf → List layouts.Leaf
view_layout ls = map view_leaf ls

-- a text is its bytes
abbrev pub view_cell : Cell → layouts.Cell
view_cell cells.Unset = layouts.unset
view_cell cells.Null = layouts.null_cell
view_cell (cells.Bool b) = layouts.bool_cell b
view_cell (cells.Int z) = layouts.int_cell z
view_cell (cells.Bytes b) = layouts.bytes_cell b.now

abbrev pub view_scalar : Scalar → layouts.Cell
view_scalar scalars.Unset = layouts.unset
view_scalar scalars.Null = layouts.null_cell
view_scalar (scalars.Bool b) = layouts.bool_cell b
view_scalar (scalars.Int z) = layouts.int_cell z
view_scalar (scalars.Bytes b) = layouts.bytes_cell b

abbrev pub view_cells : List Scalar → List layouts.Cell
view_cells cs = map view_scalar cs
