use Rattle.std.specs.Prelude.{◌≡◌, take}
use Rattle.lt_core.proofs.value.+copy.Given as goal

abbrev pub invariant-copy_fields-loop-number : goal.invariant-copy_fields-loop-number
invariant-copy_fields-loop-number l = l.copies ≡ take l.number-index l.number-items
