-- What each variant of a value and of a kind stands for.
use Rattle.std.proofs.Common.{◌≡◌, ℕ, ℤ, Bool, List, ap, sym, ◌∙◌}
use Rattle.lt_terms.specs.Value as model
use Rattle.std.specs.Prelude.{map}
use Rattle.lt_terms.specs.declared.Rank.{Rank}
use Rattle.lt_terms.specs.Kind as kinds
use Rattle.lt_core.specs.declared.kind.Kind.{Kind}
use Rattle.lt_core.specs.declared.kind.Kind.TheFolds.{fold-roll-Kind}
use Rattle.lt_core.specs.declared.kind.Kind.TheOpen.{Kind-F}
use Rattle.lt_core.specs.declared.kind.Kind.TheVariants.{Plain, Enum, Struct as KindStruct, rolls-Plain, rolls-Enum, rolls-Struct as rolls-KindStruct}
use Rattle.lt_core.specs.View.{kind_step, value_step, view_kind, view_settings, view_value}
use Rattle.lt_core.specs.declared.value.Value.{Value}
use Rattle.lt_core.specs.declared.value.Value.TheFolds.{fold-roll-Value}
use Rattle.lt_core.specs.declared.value.Value.TheOpen.{Value-F}
use Rattle.lt_core.specs.declared.value.Value.TheVariants.{Null, Bool as Truth, Int, Text, Bytes, Struct, rolls-Null, rolls-Bool, rolls-Int, rolls-Text, rolls-Bytes, rolls-Struct}

pub view_null : view_value Null ≡ model.null_value
view_null = ap view_value (sym rolls-Null) ∙ fold-roll-Value model.Value value_step Value-F.Null

pub view_bool : (b : Bool) → view_value (Truth b) ≡ model.bool_value b
view_bool b = ap view_value (sym (rolls-Bool b)) ∙ fold-roll-Value model.Value value_step (Value-F.Bool b)

pub view_int : (z : ℤ) → view_value (Int z) ≡ model.int_value z
view_int z = ap view_value (sym (rolls-Int z)) ∙ fold-roll-Value model.Value value_step (Value-F.Int z)

pub view_text : (t : List ℕ) → view_value (Text t) ≡ model.text_value t
view_text t = ap view_value (sym (rolls-Text t)) ∙ fold-roll-Value model.Value value_step (Value-F.Text t)

pub view_bytes : (b : List ℕ) → view_value (Bytes b) ≡ model.bytes_value b
view_bytes b = ap view_value (sym (rolls-Bytes b)) ∙ fold-roll-Value model.Value value_step (Value-F.Bytes b)

pub view_struct : (fs : List (ℕ × Value)) → view_value (Struct fs) ≡ model.struct_value (model.fields_of (view_settings fs))
view_struct fs = ap view_value (sym (rolls-Struct fs)) ∙ fold-roll-Value model.Value value_step (Value-F.Struct fs)

pub view_plain : (r : Rank) → view_kind (Plain r) ≡ kinds.plain r
view_plain r = ap view_kind (sym (rolls-Plain r)) ∙ fold-roll-Kind kinds.Kind kind_step (Kind-F.Plain r)

pub view_enum : (names : List (ℤ × List ℕ)) → view_kind (Enum names) ≡ kinds.enumeration names
view_enum names = ap view_kind (sym (rolls-Enum names)) ∙ fold-roll-Kind kinds.Kind kind_step (Kind-F.Enum names)

pub view_structured : (ks : List (ℕ × List ℕ × Kind)) → view_kind (KindStruct ks) ≡ kinds.structured (kinds.field_kinds_of (map (λ k. (k.0, k.1, view_kind k.2)) ks))
view_structured ks = ap view_kind (sym (rolls-KindStruct ks)) ∙ fold-roll-Kind kinds.Kind kind_step (Kind-F.Struct ks)
