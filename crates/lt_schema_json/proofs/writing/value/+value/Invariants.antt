use Rattle.std.proofs.Common.{◌≡◌, map, take}
use Rattle.serde_json.specs.View.{view}
use Rattle.lt_core.specs.View.{view_settings}
use Rattle.lt_schema_json.specs.Writing.{item_data}
use Rattle.lt_schema_json.proofs.writing.value.+value.Given as goal

abbrev pub invariant-values_json-loop-value : goal.invariant-values_json-loop-value
invariant-values_json-loop-value l = map view l.items.items ≡ map item_data (view_settings (take l.value-index l.value-items))
