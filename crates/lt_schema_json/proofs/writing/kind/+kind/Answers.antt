use Rattle.std.proofs.Common.{List, ap, map, ℕ, ◌∙◌}
use Rattle.std.proofs.lemmas.List.{take_all}
use Rattle.serde_json.specs.Data.{array}
use Rattle.lt_core.specs.declared.kind.Kind.{Kind}
use Rattle.lt_schema.specs.View.{view_field}
use Rattle.lt_schema_json.specs.Writing.{field_data}
use Rattle.lt_schema_json.proofs.Written.{array_written, fields_written}
use Rattle.lt_schema_json.proofs.writing.kind.+kind.Goals as goal

pub fields_json-returns : goal.fields_json-returns
fields_json-returns t c =
    array_written c.loop-number.items _ (c.loop-number.invariant ∙ ap (λ (fs : List (ℕ × List ℕ × Kind)). map field_data (map view_field fs)) (take_all _ _ c.loop-number-test.false ∙ c.as_slice-number-items.ensures))
    ∙ ap array (fields_written (map view_field c.args.fields.now))
