use Rattle.std.proofs.Common.{◌≡◌, map, take}
use Rattle.serde_json.specs.View.{view}
use Rattle.lt_schema.specs.View.{view_key}
use Rattle.lt_schema_json.specs.Writing.{key_data}
use Rattle.lt_schema_json.proofs.writing.key_json.Given as goal

abbrev pub invariant-loop-column : goal.invariant-loop-column
invariant-loop-column l = map view l.items.items ≡ map key_data (view_key (take l.column-index l.column-items))
