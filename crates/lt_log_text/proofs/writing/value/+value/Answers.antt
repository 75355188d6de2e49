use Rattle.std.proofs.Common.{List, ap, map, ℕ, ◌∙◌}
use Rattle.std.proofs.lemmas.List.{take_all}
use Rattle.lt_core.specs.View.{view_settings}
use Rattle.lt_core.specs.declared.value.Value.{Value}
use Rattle.lt_log_text.specs.Lines.{setting_data}
use Rattle.lt_schema_json.proofs.Written.{array_written}
use Rattle.lt_log_text.proofs.writing.value.+value.Goals as goal

pub settings_json-returns : goal.settings_json-returns
settings_json-returns t c =
    array_written c.loop-number.items _ (c.loop-number.invariant ∙ ap (λ (ss : List (ℕ × Value)). map setting_data (view_settings ss)) (take_all _ _ c.loop-number-test.false ∙ c.as_slice-number-items.ensures))
