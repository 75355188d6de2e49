use Rattle.std.proofs.Common.{◌≡◌, drop}
use Rattle.lt_terms.specs.Value.{value_at}
use Rattle.lt_coerce.specs.Fields.{view_fields}
use Rattle.lt_coerce.proofs.conversion.field.Given as goal

abbrev pub invariant-loop-named : goal.invariant-loop-named
invariant-loop-named l = value_at l.number (view_fields (drop l.named-index l.named-items)) ≡ value_at l.number (view_fields l.fields)
