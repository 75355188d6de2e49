-- What the refusals print.
use Rattle.std.specs.Prelude.{List, codes, ℕ, ◌++◌}
use Rattle.std.specs.Fmt.{decimal}
use Rattle.lt_core.specs.Messages.{out_of_memory}
use Rattle.lt_parts.specs.declared.refusal.SplitRefusal.{SplitRefusal}
use Rattle.lt_parts.specs.declared.refusal.SplitRefusal.TheVariants as refusals

abbrev pub split_message : SplitRefusal → List ℕ
split_message (refusals.AtEdge part) = codes "partition " ++ decimal part ++ codes " begins at the key"
split_message refusals.TooManyParts = codes "there are 1024 partitions"
split_message refusals.Memory = out_of_memory
