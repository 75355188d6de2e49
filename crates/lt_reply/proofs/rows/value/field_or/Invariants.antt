use Rattle.std.proofs.Common.{◌≡◌, drop}
use Rattle.lt_terms.specs.Value.{value_at}
use Rattle.lt_schema_json.specs.Reading.{view_struct}
use Rattle.lt_reply.proofs.rows.value.field_or.Given as goal

abbrev pub invariant-loop-named : goal.invariant-loop-named
invariant-loop-named l = value_at l.number (view_struct (drop l.named-index l.named-items)) ≡ value_at l.number (view_struct l.fields)
