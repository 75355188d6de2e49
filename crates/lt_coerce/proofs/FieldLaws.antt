-- One field more of a struct at a kind.
use Rattle.std.proofs.Common.{List, [], ap, refl, sym, ℕ, ◌++◌, ◌∙◌, ◌∷◌, ◌≡◌}
use Rattle.std.specs.Prelude.{map}
use Rattle.std.proofs.lemmas.List.{map-append}
use Rattle.lt_terms.specs.Conversion.{conv, conv_fields}
use Rattle.lt_terms.specs.Value.{Fields, Value, field_list, field_value, fields_of, value_at}
use Rattle.lt_codecs.proofs.ValueCodecs.{list_again}
use Rattle.lt_core.specs.View.{view_kind, view_setting, view_settings, view_value}
use Rattle.lt_core.specs.declared.kind.Kind.{Kind as CodeKind}
use Rattle.lt_core.specs.declared.value.Value.{Value as CodeValue}
use Rattle.lt_coerce.specs.Fields.{view_field_kinds, view_fields}

abbrev FieldKind : Type 0
FieldKind = ℕ × List ℕ × CodeKind

-- the field that a kind's field takes of a struct
abbrev taken : Fields → FieldKind → ℕ × Value
taken fs k = (k.0, conv (value_at k.0 fs) (view_kind k.2))

conv_each : (fs : Fields) (ks : List FieldKind) → conv_fields fs (view_field_kinds ks) ≡ fields_of (map (taken fs) ks)
conv_each fs [] = refl
conv_each fs (k ∷ ks) = ap (field_value k.0 (conv (value_at k.0 fs) (view_kind k.2))) (conv_each fs ks)

pub one_more : (fs : Fields) (ks : List FieldKind) (k : FieldKind) (xs : List (ℕ × CodeValue)) (v : CodeValue) → view_fields xs ≡ conv_fields fs (view_field_kinds ks) → view_value v ≡ conv (value_at k.0 fs) (view_kind k.2)
    → view_fields (xs ++ (k.0, v) ∷ []) ≡ conv_fields fs (view_field_kinds (ks ++ k ∷ []))
one_more fs ks k xs v e f =
    let before : view_settings xs ≡ map (taken fs) ks = sym (list_again (view_settings xs)) ∙ ap field_list (e ∙ conv_each fs ks) ∙ list_again (map (taken fs) ks) in
    ap fields_of (map-append view_setting xs ((k.0, v) ∷ []) ∙ ap (λ (ys : List (ℕ × Value)). ys ++ (k.0, view_value v) ∷ []) before
    ∙ ap (λ (w : Value). map (taken fs) ks ++ (k.0, w) ∷ []) f ∙ sym (map-append (taken fs) ks (k ∷ []))) ∙ sym (conv_each fs (ks ++ k ∷ []))
