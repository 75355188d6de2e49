use Rattle.std.proofs.Common.{◌≡◌, map, take}
use Rattle.serde_json.specs.View.{view}
use Rattle.lt_terms.specs.Value.{null_value}
use Rattle.lt_core.specs.View.{view_value}
use Rattle.lt_schema.specs.View.{view_field}
use Rattle.lt_schema_json.specs.Reading.{view_struct}
use Rattle.lt_reply.proofs.Shown.{field_shown}
use Rattle.lt_reply.proofs.rows.value.+kind.Given as goal

abbrev pub invariant-fields_json-loop-number : goal.invariant-fields_json-loop-number
invariant-fields_json-loop-number l = record {
  items : map view l.items.items ≡ map (field_shown (view_struct l.fields)) (map view_field (take l.number-index l.number-items));
  null : view_value l.null ≡ null_value;
}
