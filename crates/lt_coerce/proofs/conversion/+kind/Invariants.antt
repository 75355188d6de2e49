use Rattle.std.proofs.Common.{◌≡◌, take}
use Rattle.lt_terms.specs.Conversion.{conv_fields}
use Rattle.lt_coerce.specs.Fields.{view_field_kinds, view_fields}
use Rattle.lt_coerce.proofs.conversion.+kind.Given as goal

abbrev pub invariant-at_kinds-loop-number : goal.invariant-at_kinds-loop-number
invariant-at_kinds-loop-number l = view_fields l.converted ≡ conv_fields (view_fields l.fields) (view_field_kinds (take l.number-index l.number-items))
