use Rattle.std.proofs.Common.{List, ap, map, ℕ, ◌∙◌}
use Rattle.std.proofs.lemmas.List.{take_all}
use Rattle.serde_json.specs.Data.{array}
use Rattle.lt_core.specs.declared.kind.Kind.{Kind}
use Rattle.lt_schema.specs.View.{view_field}
use Rattle.lt_schema_json.proofs.Written.{array_written}
use Rattle.lt_schema_json.specs.Reading.{view_struct}
use Rattle.lt_reply.proofs.Shown.{field_shown, fields_shown}
use Rattle.lt_reply.proofs.rows.value.+kind.Goals as goal

pub fields_json-returns : goal.fields_json-returns
fields_json-returns t c =
    let fs = view_struct c.args.fields.now in
    array_written c.loop-number.items _ (c.loop-number.invariant.items ∙ ap (λ (ks : List (ℕ × List ℕ × Kind)). map (field_shown fs) (map view_field ks)) (take_all _ _ c.loop-number-test.false ∙ c.as_slice-number-items.ensures))
    ∙ ap array (fields_shown fs (map view_field c.args.kinds.now))
