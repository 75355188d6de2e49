use Rattle.std.proofs.Common.{◌≡◌, map, take}
use Rattle.serde_json.specs.View.{view}
use Rattle.lt_core.specs.View.{view_settings}
use Rattle.lt_log_text.specs.Lines.{setting_data}
use Rattle.lt_log_text.proofs.writing.value.+value.Given as goal

abbrev pub invariant-settings_json-loop-number : goal.invariant-settings_json-loop-number
invariant-settings_json-loop-number l = map view l.items.items ≡ map setting_data (view_settings (take l.number-index l.number-items))
