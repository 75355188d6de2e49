use Rattle.std.proofs.Common.{◌≡◌, drop}
use Rattle.lt_words.specs.SchemaText.{all_of}
use Rattle.lt_core.specs.View.{view_settings}
use Rattle.lt_log_text.specs.Lines.{setting_in}
use Rattle.lt_schema_json.specs.Reading.{values_view}
use Rattle.lt_schema_json.proofs.Fronts.{with_front}
use Rattle.lt_log_text.proofs.reading.value.+value.Given as goal

abbrev pub invariant-settings_in-loop-item : goal.invariant-settings_in-loop-item
invariant-settings_in-loop-item l =
    with_front (view_settings l.settings) (all_of setting_in (values_view (drop l.item-index l.item-items)))
    ≡ all_of setting_in (values_view l.item-items)
