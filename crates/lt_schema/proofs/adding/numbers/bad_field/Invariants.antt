use Rattle.std.specs.Prelude.{◌≡◌, drop}
use Rattle.lt_tables.specs.Schema.{field_numbers, numbers_fault}
use Rattle.lt_schema.specs.View.{view_fields}
use Rattle.lt_schema.proofs.adding.numbers.bad_field.Given as goal

abbrev pub invariant-loop-number : goal.invariant-loop-number
invariant-loop-number l = numbers_fault l.before (field_numbers (view_fields (drop l.number-index l.number-items))) ≡ numbers_fault 0 (field_numbers (view_fields l.number-items))
