use Rattle.std.proofs.Common.{List, ap, map, ℕ, ◌∙◌}
use Rattle.std.proofs.lemmas.List.{take_all}
use Rattle.serde_json.specs.Data.{array}
use Rattle.lt_core.specs.View.{view_settings}
use Rattle.lt_core.specs.declared.value.Value.{Value}
use Rattle.lt_schema_json.specs.Writing.{item_data}
use Rattle.lt_schema_json.proofs.Written.{array_written, values_written}
use Rattle.lt_schema_json.proofs.writing.value.+value.Goals as goal

pub values_json-returns : goal.values_json-returns
values_json-returns t c =
    array_written c.loop-value.items _ (c.loop-value.invariant ∙ ap (λ (vs : List (ℕ × Value)). map item_data (view_settings vs)) (take_all _ _ c.loop-value-test.false ∙ c.as_slice-value-items.ensures))
    ∙ ap array (values_written (view_settings c.args.fields.now))
