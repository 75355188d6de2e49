-- What the refusals print.
use Rattle.std.specs.Prelude.{List, codes, ℕ, ◌++◌}
use Rattle.std.specs.Fmt.{decimal}
use Rattle.lt_core.specs.Messages.{out_of_memory}
use Rattle.lt_pump.specs.declared.refusal.AttachRefusal.{AttachRefusal}
use Rattle.lt_pump.specs.declared.refusal.AttachRefusal.TheVariants as refusals
use Rattle.lt_pump.specs.declared.refusal.PumpFault.{PumpFault}
use Rattle.lt_pump.specs.declared.refusal.PumpFault.TheVariants as faults

abbrev pub attach_message : AttachRefusal → List ℕ
attach_message (refusals.Mismatch stream) = codes "stream " ++ decimal stream ++ codes " does not fit"
attach_message refusals.Feed = codes "the feed failed"
attach_message refusals.Memory = out_of_memory

abbrev pub pump_message : PumpFault → List ℕ
pump_message faults.NoStream = codes "no such stream"
pump_message faults.Feed = codes "the feed failed"
pump_message faults.Memory = out_of_memory
