-- What the refusals print.
use Rattle.std.specs.Prelude.{List, codes, ℕ, ◌++◌}
use Rattle.std.specs.Fmt.{decimal}
use Rattle.lt_core.specs.Messages.{out_of_memory}
use Rattle.lt_records.specs.declared.refusal.ValueRefusal.{ValueRefusal}
use Rattle.lt_records.specs.declared.refusal.ValueRefusal.TheVariants as value_refusals
use Rattle.lt_records.specs.declared.refusal.WriteRefusal.{WriteRefusal}
use Rattle.lt_records.specs.declared.refusal.WriteRefusal.TheVariants as write_refusals

abbrev pub write_message : WriteRefusal → List ℕ
write_message (write_refusals.TooLong len) = codes "a body of " ++ decimal len ++ codes " bytes"
write_message write_refusals.Memory = out_of_memory

abbrev pub value_message : ValueRefusal → List ℕ
value_message value_refusals.NotAValue = codes "no value"
value_message value_refusals.Memory = out_of_memory
