-- What the refusals print.
use Rattle.std.specs.Prelude.{List, codes, ℕ, ◌++◌}
use Rattle.std.specs.Fmt.{decimal}
use Rattle.lt_core.specs.Messages.{out_of_memory}
use Rattle.lt_fair.specs.declared.refusal.TakeRefusal.{TakeRefusal}
use Rattle.lt_fair.specs.declared.refusal.TakeRefusal.TheVariants as refusals
use Rattle.lt_fair.specs.declared.refusal.Unfair.{Unfair}
use Rattle.lt_fair.specs.declared.refusal.Unfair.TheVariants as rules

abbrev pub unfair_message : Unfair → List ℕ
unfair_message rules.SecondHeader = codes "a second header"
unfair_message rules.Range = codes "a key outside the stream's range"
unfair_message (rules.UnknownTable number) = codes "no table " ++ decimal number
unfair_message (rules.UnknownVersion version) = codes "no version " ++ decimal version ++ codes " of the table"
unfair_message rules.Shape = codes "not the shape of the version"
unfair_message (rules.Late checkpoint) = codes "not above the checkpoint " ++ decimal checkpoint
unfair_message (rules.Order last) = codes "not above " ++ decimal last ++ codes ", the last change of the key"
unfair_message (rules.Backward checkpoint) = codes "below the checkpoint " ++ decimal checkpoint

abbrev pub take_message : TakeRefusal → List ℕ
take_message (refusals.Unfair unfair) = unfair_message unfair
take_message refusals.Memory = out_of_memory
