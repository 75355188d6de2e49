use Rattle.std.proofs.Common.{◌≡◌, map, take}
use Rattle.serde_json.specs.View.{view}
use Rattle.lt_schema_json.specs.Writing.{name_data}
use Rattle.lt_schema_json.proofs.writing.kind.names_json.Given as goal

abbrev pub invariant-loop-number : goal.invariant-loop-number
invariant-loop-number l = map view l.items.items ≡ map name_data (take l.number-index l.number-items)
