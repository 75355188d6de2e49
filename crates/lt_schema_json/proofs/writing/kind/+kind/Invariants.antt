use Rattle.std.proofs.Common.{◌≡◌, map, take}
use Rattle.serde_json.specs.View.{view}
use Rattle.lt_schema.specs.View.{view_field}
use Rattle.lt_schema_json.specs.Writing.{field_data}
use Rattle.lt_schema_json.proofs.writing.kind.+kind.Given as goal

abbrev pub invariant-fields_json-loop-number : goal.invariant-fields_json-loop-number
invariant-fields_json-loop-number l = map view l.items.items ≡ map field_data (map view_field (take l.number-index l.number-items))
